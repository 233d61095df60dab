use Rattle.std.proofs.Common.{◌<◌, arith}
use Rattle.std.proofs.lemmas.List.{at_drop_more}
use Rattle.book.specs.Model.{no_node, node_count, places_of}
use Rattle.file.specs.Encode.{place_records, entry_records}
use Rattle.file.proofs.Pens.{left_more}
use Rattle.file.proofs.entries.put_entry_records.Goals as goal

pub loop-node-preserved : goal.loop-node-preserved
loop-node-preserved g c =
    let m = g.B.Book.model c.args.book.now in
    let n = c.loop-node.node in
    let within : n < node_count m = omega arith in
    left_more c.loop-node.invariant (place_records (places_of m n)) _ (at_drop_more entry_records m.nodes n no_node within) c.put_node_entries.ensures
