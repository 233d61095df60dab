use Rattle.std.proofs.Common.{◌≡◌, None}
use Rattle.book_check.specs.Below.{first_below}
use Rattle.book_check.specs.Checked.{node_fault}
use Rattle.book_check.proofs.Scans.{Scanned, Passed}
use Rattle.book_check.proofs.scan.check.Given as goal

abbrev pub invariant-loop-node : goal.invariant-loop-node
invariant-loop-node g l = Scanned (g.B.Book.model l.book) l.named l.node

abbrev pub invariant-loop-place : goal.invariant-loop-place
invariant-loop-place g l =
    let m = g.B.Book.model l.book in
    (first_below (node_fault m) l.node ≡ None) × Passed m l.named l.node l.place
