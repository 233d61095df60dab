use Rattle.std.proofs.Common.{◌<◌, [], ◌∷◌, refl, ap, ◌∙◌, arith}
use Rattle.book.specs.Kinds.{number_of}
use Rattle.book.specs.Model.{pick_limit}
use Rattle.file.specs.Pen.{wrote}
use Rattle.file.proofs.Pens.{left_more, left_same}
use Rattle.file.proofs.Records.{pick_next, pick_some}
use Rattle.file.proofs.picks.put_pick_records.Goals as goal
use Rattle.file.proofs.picks.put_pick_records.Goals.{in-Some, in_default}

pub loop-pick-preserved : goal.loop-pick-preserved
loop-pick-preserved g c =
    let m = g.B.Book.model c.args.book.now in
    let within : c.loop-pick.pick < pick_limit m = omega arith in
    elim c.match-kind.branch [
      | in-Some w ↦
          left_same
          (left_more c.loop-pick.invariant (number_of w.in-Some.kind ∷ []) _
          (pick_next m.kinds c.loop-pick.pick within w.in-Some.kind w.in-Some.ensures)
          (w.put_bytes.ensures ∙ ap (λ n. wrote c.loop-pick.pen (n ∷ [])) w.from.ensures))
          _ refl w.pen-is
      | in_default w ↦ absurd (pick_some m.kinds c.loop-pick.pick within w.in_default.ensures)
    ]
