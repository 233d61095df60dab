-- How long the file form and its parts are.
use Rattle.std.proofs.Common.{◌≡◌, ℕ, suc, ◌+◌, ◌*◌, List, [], ◌∷◌, length, None, Option, refl, ap, arith, length-append, Some}
use Rattle.std.proofs.lemmas.List.{length-map}
use Rattle.book.specs.declared.place.Entry.{Entry}
use Rattle.book.specs.Kinds.{number_of}
use Rattle.book.specs.Model.{Node, Model, node_count, pick_limit}
use Rattle.book.specs.Spoilt.{spoilt_place, spoilt_node, first_spoilt}
use Rattle.book.specs.Totals.{places_in, total_places}
use Rattle.file.specs.Encode.{node_record, node_records, entry_record, place_records, entry_records, encode}
use Rattle.file.proofs.Bytes.{length_bytes_of}

pub length_node_record : (first : ℕ) (n : Node) → length (node_record first n) ≡ 4
length_node_record first n = ap (λ k. suc (suc k)) (length_bytes_of 2 first)

pub length_node_records : (first : ℕ) (ns : List Node) → length (node_records first ns) ≡ 4 * length ns
length_node_records first [] = refl
length_node_records first (n ∷ ns) =
    simp (length-append, length_bytes_of) (omega (arith, length_node_records (first + length n.places) ns))

pub length_entry_record : (e : Entry) → length (entry_record e) ≡ 26
length_entry_record e = simp (length-append, length_bytes_of)

-- where no place is spoilt, each has its record
place_records_unspoilt : (n i : ℕ) (ps : List (Option Entry)) (later : Option (ℕ × ℕ)) → None ≡ spoilt_place n i ps later → (length (place_records ps) ≡ 26 * length ps) × (None ≡ later)
place_records_unspoilt n i [] later none = (refl, none)
place_records_unspoilt n i (Some e ∷ ps) later none =
    let rest = place_records_unspoilt n (i + 1) ps later none in
    (simp (length-append, length_bytes_of) (omega (arith, rest.0)), rest.1)
place_records_unspoilt n i (None ∷ ps) later none = let wrong : ◌≡◌ {A = ℕ} 0 1 = cc in absurd (omega arith)

pub length_entry_records : (n : ℕ) (ns : List Node) → None ≡ spoilt_node n ns → length (entry_records ns) ≡ 26 * places_in ns
length_entry_records n [] none = refl
length_entry_records n (x ∷ xs) none =
    let here = place_records_unspoilt n 0 x.places (spoilt_node (n + 1) xs) none in
    simp length-append (omega (arith, here.0, length_entry_records (n + 1) xs here.1))

pub length_encode : (m : Model) → None ≡ first_spoilt m → length (encode m) ≡ (2 + 4 * node_count m) + (2 + 26 * total_places m) + (2 + pick_limit m)
length_encode m none =
    simp (length-append, length_bytes_of, length-map m.kinds number_of)
    (omega (arith, length_node_records 0 m.nodes, length_entry_records 0 m.nodes none))
