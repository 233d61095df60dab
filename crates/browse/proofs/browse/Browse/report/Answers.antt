use Rattle.search.specs.declared.turn.Call.TheVariants.{Report}
use Rattle.browse.specs.Desk.{standing}
use Rattle.browse.specs.Law.{taken}
use Rattle.browse.proofs.Promises.{lawful_reply}
use Rattle.browse.proofs.browse.Browse.report.Goals as goal

pub returns-clause-law : goal.returns-clause-law
returns-clause-law g c =
    let b = c.args.self.now in
    let s = standing b.desk in
    let m = g.B.Book.model b.view.book in
    let far = g.M.Measure.distance b.view.measure b.view.query in
    λ hand.
    lawful_reply m far (g.met.B.Book.shape b.view.book) (g.met.M.Measure.monotone b.view.measure b.view.query) (g.met.M.Measure.fits b.view.measure b.view.query)
    s (taken hand Report) _ s cc
