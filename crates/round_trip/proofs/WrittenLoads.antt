-- What is written out loads with the same meaning.
use Rattle.std.proofs.Common.{◌≡◌, ◌≤◌, map, length, None, sym, ap, ◌∙◌, arith}
use Rattle.std.proofs.lemmas.List.{length-map}
use Rattle.book.specs.Model.{Model, BookShape}
use Rattle.book.specs.Spoilt.{first_spoilt}
use Rattle.book.specs.Totals.{total_places}
use Rattle.file.specs.Encode.{place_record, encode}
use Rattle.loaded.specs.Lawful.{LawfulFile}
use Rattle.loaded.specs.Tables.{node_of}
use Rattle.loaded.proofs.Laid.{laid_decodes}
use Rattle.round_trip.specs.RoundTrip.{WrittenLoads}
use Rattle.round_trip.proofs.Flat.{all_places, count_all, filled_all, fits_all}
use Rattle.round_trip.proofs.NodeParts.{said_of, said_count, said_levels, said_few, said_behind, said_places, nodes_said}
use Rattle.round_trip.proofs.EntryParts.{places_read, places_sized}
use Rattle.round_trip.proofs.Laid.{laid}

lawful : (m : Model) → BookShape m → total_places m ≤ 2048 → first_spoilt m ≡ None → LawfulFile (encode m) m
lawful m shape few none =
    let ns = m.nodes in
    let ps = all_places ns in
    let filled = filled_all 0 ns none in
    let count : length (map place_record ps) ≡ total_places m = length-map ps place_record ∙ count_all ns in
    let places = places_read ps filled (fits_all ns shape.targets_fit) in
    record {
      nodes = said_of 0 ns;
      entries = map place_record ps;
      picks = m.kinds;
      laid_out = laid m (omega (arith, shape.nodes_most)) (omega arith) (omega (arith, shape.picks_most));
      some_node = omega (arith, said_count 0 ns, shape.some_node);
      nodes_most = omega (arith, said_count 0 ns, shape.nodes_most);
      entries_most = omega (arith, count);
      picks_most = shape.picks_most;
      levels_most = said_levels 0 ns shape.levels_most;
      places_most = said_few 0 ns shape.places_most;
      first_entries = λ i d within. said_behind 0 ns i d within ∙ omega arith;
      places_total = said_places 0 ns ∙ sym count;
      entry_size = places_sized ps filled;
      holds =
          (λ i. record { nodes = sym (nodes_said ns) i; kinds = m.kinds })
          ∙ ap (λ all. record { nodes = map (node_of all) (said_of 0 ns); kinds = m.kinds }) (sym places);
    }

pub written_loads : WrittenLoads
written_loads m shape few none = laid_decodes (encode m) m (lawful m shape few none)
