use Rattle.std.proofs.Common.{◌≡◌, ◌+◌, drop}
use Rattle.book.specs.Totals.{places_in}
use Rattle.file.specs.Encode.{node_records}
use Rattle.file.proofs.Pens.{Left}
use Rattle.file.proofs.nodes.put_node_records.Given as goal

abbrev pub invariant-loop-node : goal.invariant-loop-node
invariant-loop-node g l =
    let ns = (g.B.Book.model l.book).nodes in
    Left l.initial.pen (node_records 0 ns) (node_records l.first (drop l.node ns)) l.pen
    × (l.first + places_in (drop l.node ns) ≡ places_in ns)
