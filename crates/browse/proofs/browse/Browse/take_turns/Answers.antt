use Rattle.std.proofs.Common.{map, vec_items, sym, arith}
use Rattle.browse.specs.Browse.{reply}
use Rattle.browse.specs.Desk.{standing}
use Rattle.browse.proofs.Promises.{lawful_replies}
use Rattle.browse.proofs.Saying.{said_all}
use Rattle.browse.proofs.browse.Browse.take_turns.Goals as goal

pub returns-clause-law : goal.returns-clause-law
returns-clause-law g c =
    let b = c.args.self.now in
    let v = b.view in
    let m = g.B.Book.model v.book in
    let far = g.M.Measure.distance v.measure v.query in
    let said = said_all m far (standing b.desk) c.args.turns.now (standing c.loop-turn.self.desk) c.loop-turn.turn-index (vec_items c.loop-turn.answers) c.loop-turn.invariant.0 (omega arith) in
    lawful_replies m far (g.met.B.Book.shape v.book) (g.met.M.Measure.monotone v.measure v.query) (g.met.M.Measure.fits v.measure v.query)
    (standing b.desk) c.args.turns.now (map reply (vec_items c.loop-turn.answers)) (sym said.0)
