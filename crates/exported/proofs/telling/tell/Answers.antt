use Rattle.std.proofs.Common.{rules, ◌≡◌, ◌+◌, slice_set, sym, ap, ◌∙◌, subst}
use Rattle.std.proofs.lemmas.List.{set-get_or}
use Rattle.loaded.specs.Loaded.{loaded_model}
use Rattle.browse.specs.Browse.{next_reply, next_of}
use Rattle.browse.specs.Desk.{standing}
use Rattle.browse.specs.Law.{unlimited, TellsNearest}
use Rattle.exported.proofs.Fronts.{Telling, tells_more, ends_short}
use Rattle.exported.proofs.telling.tell.Goals as goal

pub loop-told-preserved : goal.loop-told-preserved
loop-told-preserved g c =
    let b = c.args.browse.now in
    let m = loaded_model b.view.book in
    let d = g.M.Measure.distance in
    let k = c.loop-told.invariant in
    let s = standing c.loop-told.browse.desk in
    let t = standing c.next.new.self.desk in
    let q = next_reply c.next.result in
    let e = subst (λ v. next_of (loaded_model v.book) (d v.measure v.query) unlimited s ≡ (q, t)) k.1 c.next.ensures.follows in
    let n = subst (λ v. TellsNearest (loaded_model v.book) (d v.measure v.query) s unlimited q) k.1 c.next.ensures.nearest in
    let more = tells_more m (d b.view.measure b.view.query) c.args.rows.now s t c.loop-told.rows c.loop-told.told k.0 q e n c.requires.accepted c.in-Some.row (sym c.in-Some.is ∙ c.row_found.ensures) (search rules) in (
      subst (λ y. Telling m (d b.view.measure b.view.query) t c.args.rows.now (slice_set c.loop-told.rows c.loop-told.told y) (c.loop-told.told + 1)) (sym c.from.ensures) more,
      c.next.ensures.parts ∙ k.1,
    )

pub returns-in_default : goal.returns-in_default
returns-in_default g c =
    let b = c.args.browse.now in
    let m = loaded_model b.view.book in
    let d = g.M.Measure.distance in
    let k = c.loop-told.invariant in
    let s = standing c.loop-told.browse.desk in
    let t = standing c.next.new.self.desk in
    let q = next_reply c.next.result in
    let e = subst (λ v. next_of (loaded_model v.book) (d v.measure v.query) unlimited s ≡ (q, t)) k.1 c.next.ensures.follows in
    let n = subst (λ v. TellsNearest (loaded_model v.book) (d v.measure v.query) s unlimited q) k.1 c.next.ensures.nearest in
    let f = ends_short m (d b.view.measure b.view.query) c.args.rows.now s t c.loop-told.rows c.loop-told.told k.0 q e n c.requires.accepted (g.met.M.Measure.fits b.view.measure b.view.query) (sym c.in_default.is ∙ c.row_found.ensures) (search rules) in
    record { book = ap (λ v. v.book) (c.next.ensures.parts ∙ k.1); count = f.0; rows = set-get_or _ _ _ ∙ f.1 }
