use Rattle.std.proofs.Common.{◌≡◌, ◌+◌, drop}
use Rattle.book.specs.Model.{places_of}
use Rattle.book.specs.Spoilt.{spoilt_place, spoilt_node, first_spoilt}
use Rattle.book.proofs.spoilt.first_spoilt.Given as goal

-- what is left to look at holds the first spoilt place
abbrev pub invariant-loop-node : goal.invariant-loop-node
invariant-loop-node g l =
    let m = g.B.Book.model l.book in
    first_spoilt m ≡ spoilt_node l.node (drop l.node m.nodes)

abbrev pub invariant-loop-index : goal.invariant-loop-index
invariant-loop-index g l =
    let m = g.B.Book.model l.book in
    first_spoilt m ≡ spoilt_place l.node l.index (drop l.index (places_of m l.node)) (spoilt_node (l.node + 1) (drop (l.node + 1) m.nodes))
