use Rattle.std.proofs.Common.{◌<◌, refl, arith, rules}
use Rattle.std.proofs.lemmas.List.{at_drop_more}
use Rattle.book.specs.Totals.{places_in}
use Rattle.book.specs.Model.{no_node, node_count, node_of, place_count}
use Rattle.file.specs.Encode.{node_record}
use Rattle.file.proofs.Bytes.{length_bytes_of}
use Rattle.file.proofs.Lengths.{length_node_record}
use Rattle.file.proofs.Pens.{left_room, left_more}
use Rattle.file.proofs.Records.{nodes_next}
use Rattle.file.proofs.nodes.put_node_records.Goals as goal

pub put_node-requires : goal.put_node-requires
put_node-requires g c =
    let m = g.B.Book.model c.args.book.now in
    let n = c.loop-node.node in
    let within : n < node_count m = omega arith in
    let first = c.loop-node.first in
    let next = nodes_next first (place_count m n) m.nodes n within refl in
    simp length_bytes_of (omega (arith, left_room c.loop-node.invariant.0 (node_record first (node_of m n)) _ next, length_node_record first (node_of m n)))

pub loop-node-preserved : goal.loop-node-preserved
loop-node-preserved g c =
    let m = g.B.Book.model c.args.book.now in
    let n = c.loop-node.node in
    let within : n < node_count m = omega arith in
    let next = nodes_next c.loop-node.first c.from-first.result m.nodes n within (search rules) in (
      left_more c.loop-node.invariant.0 (node_record c.loop-node.first (node_of m n)) _ next (search rules),
      omega (arith, c.from-first.ensures, c.place_count.ensures, c.loop-node.invariant.1, at_drop_more places_in m.nodes n no_node within),
    )
