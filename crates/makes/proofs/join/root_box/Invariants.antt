use Rattle.std.proofs.Common.{◌≡◌, drop}
use Rattle.makes.specs.Join.{root_boxes, root_box}
use Rattle.makes.specs.Smallest.{around_both, smallest}
use Rattle.makes.proofs.join.root_box.Given as goal

-- the box around what was passed and what is left is the whole one
abbrev pub invariant-loop-index : goal.invariant-loop-index
invariant-loop-index g l =
    around_both l.bounds (smallest (drop l.index (root_boxes (g.B.Book.model l.book))))
    ≡ root_box (g.B.Book.model l.book)
