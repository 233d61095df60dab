use Rattle.std.proofs.Common.{drop}
use Rattle.file.specs.Encode.{entry_records}
use Rattle.file.proofs.Pens.{Left}
use Rattle.file.proofs.entries.put_entry_records.Given as goal

abbrev pub invariant-loop-node : goal.invariant-loop-node
invariant-loop-node g l =
    let ns = (g.B.Book.model l.book).nodes in
    Left l.initial.pen (entry_records ns) (entry_records (drop l.node ns)) l.pen
