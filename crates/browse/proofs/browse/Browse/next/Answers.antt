use Rattle.std.proofs.Common.{arith}
use Rattle.search.specs.declared.turn.Call.TheVariants.{Next}
use Rattle.browse.specs.Browse.{next_reply}
use Rattle.browse.specs.Desk.{standing}
use Rattle.browse.specs.Law.{taken}
use Rattle.browse.proofs.Promises.{lawful_reply, nearest_reply}
use Rattle.browse.proofs.browse.Browse.next.Goals as goal

pub returns-clause-law : goal.returns-clause-law
returns-clause-law g c =
    let b = c.args.self.now in
    let m = g.B.Book.model b.view.book in
    let far = g.M.Measure.distance b.view.measure b.view.query in
    λ hand.
    lawful_reply m far (g.met.B.Book.shape b.view.book) (g.met.M.Measure.monotone b.view.measure b.view.query) (g.met.M.Measure.fits b.view.measure b.view.query) (standing b.desk)
    (taken hand (Next c.args.limit)) (next_reply c.follow.result) (standing c.follow.new.desk) (grind (arith, c.follow.ensures))

pub returns-clause-nearest : goal.returns-clause-nearest
returns-clause-nearest g c =
    let b = c.args.self.now in
    let m = g.B.Book.model b.view.book in
    let far = g.M.Measure.distance b.view.measure b.view.query in
    nearest_reply m far (g.met.B.Book.shape b.view.book) (g.met.M.Measure.monotone b.view.measure b.view.query) (g.met.M.Measure.fits b.view.measure b.view.query) (standing b.desk)
    c.args.limit (next_reply c.follow.result) (standing c.follow.new.desk) (grind (arith, c.follow.ensures))
