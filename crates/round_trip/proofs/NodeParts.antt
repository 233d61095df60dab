-- Node records.
use Rattle.std.proofs.Common.{◌≡◌, ℕ, zero, suc, ◌+◌, ◌/◌, ◌%◌, ◌<◌, ◌≤◌, List, [], ◌∷◌, ◌++◌, map, length, get_or, take, drop, sym, refl, ap, ◌∙◌, arith, length-append, Option}
use Rattle.std.proofs.lemmas.List.{append_assoc, take_at, drop_at, drop-drop}
use Rattle.std.specs.List.{flat_map, AllByRecursion}
use Rattle.book.specs.Model.{Node, no_node}
use Rattle.book.specs.Totals.{places_in}
use Rattle.book.specs.declared.place.Entry.{Entry}
use Rattle.file.specs.Encode.{bytes_of, le16, node_records}
use Rattle.loaded.specs.declared.record.NodeRecord.{NodeRecord}
use Rattle.loaded.specs.Lawful.{short_bytes, node_bytes}
use Rattle.loaded.specs.Tables.{node_of, places_of_all}
use Rattle.loaded.specs.TablesLemmas.{places_are}
use Rattle.round_trip.proofs.Flat.{all_places}
use Rattle.round_trip.proofs.Parts.{take_add}

-- both write a 16-bit number in the same two bytes
pub same_short : (n : ℕ) → n < 65536 → le16 n ≡ short_bytes n
unfolding bytes_of
same_short n small = let high : n / 256 % 256 ≡ n / 256 = omega arith in ap (λ b. n % 256 ∷ b ∷ []) high

-- what the file says of nodes of which the first has its entries from `first` on
abbrev pub said_of : ℕ → List Node → List NodeRecord
said_of first [] = []
said_of first (n ∷ ns) =
    record { level = n.level; places = length n.places; first = first } ∷ said_of (first + length n.places) ns

pub said_count : (first : ℕ) (ns : List Node) → length (said_of first ns) ≡ length ns
said_count first [] = refl
said_count first (n ∷ ns) = ap suc (said_count (first + length n.places) ns)

pub said_bytes : (first : ℕ) (ns : List Node) → first + places_in ns < 65536 → node_records first ns ≡ flat_map node_bytes (said_of first ns)
said_bytes first [] small = refl
said_bytes first (n ∷ ns) small =
    let is = same_short first (omega arith) in
    let rest = said_bytes (first + length n.places) ns (omega arith) in
    λ i. n.level ∷ length n.places ∷ (is i ++ rest i)

pub said_levels : (first : ℕ) (ns : List Node) → ((i : ℕ) → (get_or ns i no_node).level ≤ 7) → AllByRecursion (λ (r : NodeRecord). r.level ≤ 7) (said_of first ns)
said_levels first [] low = tt
said_levels first (n ∷ ns) low = (low 0, said_levels (first + length n.places) ns (λ i. low (suc i)))

pub said_few : (first : ℕ) (ns : List Node) → ((i : ℕ) → length (get_or ns i no_node).places ≤ 16) → AllByRecursion (λ (r : NodeRecord). r.places ≤ 16) (said_of first ns)
said_few first [] few = tt
said_few first (n ∷ ns) few = (few 0, said_few (first + length n.places) ns (λ i. few (suc i)))

-- each first entry stands behind the places of the nodes before it, of which there are `first` before these nodes
abbrev pub Behind : ℕ → List NodeRecord → Type 0
Behind first nodes = (i : ℕ) (d : NodeRecord) → i < length nodes → (get_or nodes i d).first ≡ first + places_of_all (take i nodes)

pub said_behind : (first : ℕ) (ns : List Node) → Behind first (said_of first ns)
said_behind first [] i d within = absurd (omega arith)
said_behind first (n ∷ ns) zero d within = omega arith
said_behind first (n ∷ ns) (suc i) d within = said_behind (first + length n.places) ns i d (omega arith) ∙ omega arith

pub said_places : (first : ℕ) (ns : List Node) → places_of_all (said_of first ns) ≡ places_in ns
said_places first [] = refl
said_places first (n ∷ ns) = ap (λ k. length n.places + k) (said_places (first + length n.places) ns)

-- the nodes that the records say, where `before` stands before their places
nodes_back : (all before : List (Option Entry)) (first : ℕ) (ns : List Node) → all ≡ before ++ all_places ns → first ≡ length before → map (node_of all) (said_of first ns) ≡ ns
nodes_back all before first [] e f = refl
nodes_back all before first (n ∷ ns) e f =
    let from : drop first all ≡ n.places ++ all_places ns = ap (drop first) e ∙ drop_at before (n.places ++ all_places ns) first (sym f) in
    let here : take (length n.places) (drop first all) ≡ n.places = ap (take (length n.places)) from ∙ take_at n.places (all_places ns) (length n.places) refl in
    let rest = nodes_back all (before ++ n.places) (first + length n.places) ns (e ∙ sym (append_assoc before n.places (all_places ns))) (omega (arith, length-append before n.places)) in
    λ i. record { level = n.level; places = here i } ∷ rest i

pub nodes_said : (ns : List Node) → map (node_of (all_places ns)) (said_of 0 ns) ≡ ns
nodes_said ns = nodes_back (all_places ns) [] 0 ns refl refl

-- and the other way round
module _ (all : List (Option Entry)) where
  next : (first : ℕ) (r : NodeRecord) (rs : List NodeRecord) → Behind first (r ∷ rs) → (r.first ≡ first) × Behind (first + r.places) rs
  next first r rs behind = (behind 0 r (omega arith) ∙ omega arith, λ i d within. behind (suc i) d (omega arith) ∙ omega arith)

  pub said_again : (first : ℕ) (rs : List NodeRecord) → Behind first rs → first + places_of_all rs ≤ length all → said_of first (map (node_of all) rs) ≡ rs
  said_again first [] behind within = refl
  said_again first (r ∷ rs) behind within =
      let there = next first r rs behind in
      let places : length (node_of all r).places ≡ r.places = places_are all r (omega (arith, there.0)) in
      let rest = said_again (first + r.places) rs there.1 (omega arith) in
      (λ i. record { level = r.level; places = places i; first = sym there.0 i } ∷ said_of (first + places i) (map (node_of all) rs))
      ∙ ap (λ ns. r ∷ ns) rest

  pub places_again : (first : ℕ) (rs : List NodeRecord) → Behind first rs → all_places (map (node_of all) rs) ≡ take (places_of_all rs) (drop first all)
  places_again first [] behind = refl
  places_again first (r ∷ rs) behind =
      let there = next first r rs behind in
      let rest = places_again (first + r.places) rs there.1 in
      ap (λ k. take r.places (drop k all) ++ all_places (map (node_of all) rs)) there.0
      ∙ ap (λ xs. take r.places (drop first all) ++ xs) (rest ∙ ap (take (places_of_all rs)) (sym (drop-drop r.places first all)))
      ∙ sym (take_add r.places (places_of_all rs) (drop first all))
