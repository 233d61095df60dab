use Rattle.std.proofs.Common.{◌≡◌, ◌*◌, ◌≤◌, take}
use Rattle.book.specs.Totals.{places_in}
use Rattle.book.proofs.totals.total_places.Given as goal

abbrev pub invariant-loop-node : goal.invariant-loop-node
invariant-loop-node g l =
    (l.total ≤ 16 * l.node) × (l.total ≡ places_in (take l.node (g.B.Book.model l.book).nodes))
