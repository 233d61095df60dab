-- The file form of a book as a lawful file is laid out.
use Rattle.std.proofs.Common.{◌≡◌, ℕ, ◌<◌, List, ◌++◌, map, length, refl, sym, ap, ◌∙◌, arith}
use Rattle.std.proofs.lemmas.List.{length-map}
use Rattle.std.proofs.lemmas.List.Concat.{flat_map_single}
use Rattle.std.proofs.lemmas.List.Folds.{flat_map-map}
use Rattle.std.specs.List.{flat_map}
use Rattle.book.specs.Kinds.{number_of}
use Rattle.book.specs.Model.{Model, node_count, pick_limit}
use Rattle.book.specs.Totals.{total_places}
use Rattle.book.specs.declared.kind.Kind.{Kind}
use Rattle.file.specs.Encode.{le16, node_records, place_record, entry_records, pick_records, encode}
use Rattle.loaded.specs.declared.record.NodeRecord.{NodeRecord}
use Rattle.loaded.specs.Lawful.{short_bytes, section, node_bytes, kind_bytes}
use Rattle.round_trip.proofs.Flat.{all_places, count_all, records_all}
use Rattle.round_trip.proofs.NodeParts.{same_short, said_of, said_count, said_bytes}

abbrev pub laid_out : List NodeRecord → List (List ℕ) → List Kind → List ℕ
laid_out nodes entries picks = section (map node_bytes nodes) ++ (section entries ++ section (map kind_bytes picks))

-- a count and then the records
counted : {A : Type 0} (bytes_of : A → List ℕ) (xs : List A) (n : ℕ) (bytes : List ℕ) → n < 65536 → length xs ≡ n → bytes ≡ flat_map bytes_of xs → le16 n ++ bytes ≡ section (map bytes_of xs)
counted bytes_of xs n bytes small count e =
    let is : n ≡ length (map bytes_of xs) = sym (length-map xs bytes_of ∙ count) in
    let flat : bytes ≡ flat_map (λ r. r) (map bytes_of xs) = e ∙ sym (flat_map-map (λ r. r) bytes_of xs) in
    ap (λ count. count ++ bytes) (same_short n small) ∙ (λ i. short_bytes (is i) ++ flat i)

pub laid : (m : Model) → node_count m < 65536 → total_places m < 65536 → pick_limit m < 65536 → encode m ≡ laid_out (said_of 0 m.nodes) (map place_record (all_places m.nodes)) m.kinds
laid m nodes places picks =
    let said = counted node_bytes (said_of 0 m.nodes) (node_count m) (node_records 0 m.nodes) nodes (said_count 0 m.nodes) (said_bytes 0 m.nodes (omega arith)) in
    let held = counted place_record (all_places m.nodes) (total_places m) (entry_records m.nodes) places (count_all m.nodes) (records_all m.nodes) in
    let named = counted kind_bytes m.kinds (pick_limit m) (pick_records m.kinds) picks refl (sym (flat_map_single number_of m.kinds)) in
    λ i. said i ++ (held i ++ named i)
