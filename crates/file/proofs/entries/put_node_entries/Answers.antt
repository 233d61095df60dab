use Rattle.std.proofs.Common.{◌<◌, ◌≤◌, refl, arith, Some, None}
use Rattle.std.proofs.lemmas.List.{at_drop_all}
use Rattle.book.specs.Model.{place_count, places_of}
use Rattle.file.specs.Encode.{entry_record, place_records}
use Rattle.file.proofs.Pens.{left_more, left_same, left_none}
use Rattle.file.proofs.Records.{place_next}
use Rattle.file.proofs.entries.put_node_entries.Goals as goal
use Rattle.file.proofs.entries.put_node_entries.Goals.{in-Some, in_default}

pub loop-index-preserved : goal.loop-index-preserved
loop-index-preserved g c =
    let m = g.B.Book.model c.args.book.now in
    let within : c.loop-index.index < place_count m c.args.node = omega arith in
    let next = place_next (places_of m c.args.node) c.loop-index.index within in
    elim c.match-place.branch [
      | in-Some w ↦
          left_same
          (left_more c.loop-index.invariant (entry_record w.in-Some.entry) _ (next (Some w.in-Some.entry) w.in-Some.ensures) w.put_entry.ensures)
          _ refl w.pen-is
      | in_default w ↦ left_same c.loop-index.invariant _ (next None w.in_default.ensures) w.pen-is
    ]

pub returns : goal.returns
returns g c =
    let m = g.B.Book.model c.args.book.now in
    let past : place_count m c.args.node ≤ c.loop-index.index = omega arith in
    left_none c.loop-index.invariant (at_drop_all place_records (places_of m c.args.node) c.loop-index.index past)
