use Rattle.std.proofs.Common.{drop}
use Rattle.book.specs.Model.{places_of}
use Rattle.file.specs.Encode.{place_records}
use Rattle.file.proofs.Pens.{Left}
use Rattle.file.proofs.entries.put_node_entries.Given as goal

abbrev pub invariant-loop-index : goal.invariant-loop-index
invariant-loop-index g l =
    let ps = places_of (g.B.Book.model l.book) l.node in
    Left l.initial.pen (place_records ps) (place_records (drop l.index ps)) l.pen
