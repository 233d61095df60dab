use Rattle.std.proofs.Common.{drop}
use Rattle.file.specs.Encode.{pick_records}
use Rattle.file.proofs.Pens.{Left}
use Rattle.file.proofs.picks.put_pick_records.Given as goal

abbrev pub invariant-loop-pick : goal.invariant-loop-pick
invariant-loop-pick g l =
    let ks = (g.B.Book.model l.book).kinds in
    Left l.initial.pen (pick_records ks) (pick_records (drop l.pick ks)) l.pen
