-- Tables that were filled from the sections of a lawful file are lawful.
use Rattle.std.proofs.Common.{◌≡◌, ℕ, zero, suc, ◌+◌, ◌<◌, ◌≤◌, true, List, [], ◌∷◌, ◌++◌, map, length, take, drop, get_or, sym, refl, ap, ◌∙◌, arith, Option}
use lib.ListN.{length-map}
use Rattle.std.proofs.lemmas.Bool.{and_from}
use Rattle.std.proofs.lemmas.List.{take_more}
use Rattle.std.proofs.lemmas.Slice.Zip.{all_zipped_more}
use Rattle.std.specs.List.{AllZip}
use Rattle.book.specs.declared.kind.Kind.{Kind}
use Rattle.book.specs.declared.place.Entry.{Entry}
use Rattle.loaded.specs.declared.record.NodeRecord.{NodeRecord}
use Rattle.loaded.specs.declared.sections.Sections.{Sections}
use Rattle.loaded.specs.Reading.{rows}
use Rattle.loaded.specs.Tables.{places_of_all, lawful_nodes, target_fits, all_targets_fit}
use Rattle.loaded.specs.Decode.{node_from, place_from}
use Rattle.loaded.specs.Seen.{nodes_in, places_in, kinds_in, joined, LawfulSections}
use Rattle.loaded.proofs.PickKinds.{few_kinds}

pub length_rows : {A : Type 0} (one : List ℕ → A) (size count : ℕ) (bytes : List ℕ) → length (rows one size count bytes) ≡ count
length_rows one size zero bytes = refl
length_rows one size (suc n) bytes = ap suc (length_rows one size n (drop size bytes))

module _ {A B : Type 0} (R : A → B → Type 0) where
  -- a table that has taken the records before number i takes this one
  pub zip_next : (xs : List A) (ys : List B) (i : ℕ) (x : A) (y : B) → i < length xs → x ≡ get_or xs i x → AllZip R (take i xs) ys → R x y → AllZip R (take (i + 1) xs) (ys ++ y ∷ [])
  zip_next xs ys i x y h e z r = rw (take_more xs i x h, sym e) (all_zipped_more R (take i xs) ys x y z r)

  pub zip_map : (v : A → B) → ((x : A) (y : B) → R x y → y ≡ v x) → (xs : List A) (ys : List B) → AllZip R xs ys → ys ≡ map v xs
  zip_map v h [] [] z = refl
  zip_map v h [] (y ∷ ys) z = absurd z
  zip_map v h (x ∷ xs) [] z = absurd z
  zip_map v h (x ∷ xs) (y ∷ ys) z = ap (λ (y : B). y ∷ ys) (h x y z.0) ∙ ap (λ (ys : List B). v x ∷ ys) (zip_map v h xs ys z.1)

pub zip_fits : (R : List ℕ → Option Entry → Type 0) → ((x : List ℕ) (p : Option Entry) → R x p → target_fits p ≡ true) → (xs : List (List ℕ)) (ps : List (Option Entry)) → AllZip R xs ps → all_targets_fit ps ≡ true
zip_fits R h [] [] z = refl
zip_fits R h [] (p ∷ ps) z = absurd z
zip_fits R h (x ∷ xs) [] z = absurd z
zip_fits R h (x ∷ xs) (p ∷ ps) z = and_from (target_fits p) (all_targets_fit ps) (h x p z.0) (zip_fits R h xs ps z.1)

module _ (s : Sections) (f : LawfulSections s) where
  module _ (ns : List NodeRecord) (same : ns ≡ nodes_in s.nodes) where
    count_nodes : length ns ≡ length s.nodes.records.now
    count_nodes = ap length same ∙ length-map s.nodes.records.now node_from

    pub some_nodes : 0 < length ns
    some_nodes = omega (arith, count_nodes, f.nodes.least)

    pub most_nodes : length ns ≤ 512
    most_nodes = omega (arith, count_nodes, f.nodes.most)

    pub nodes_lawful : lawful_nodes ns ≡ true
    nodes_lawful = ap lawful_nodes same ∙ f.nodes.lawful

    pub places_total : (ps : List (Option Entry)) → ps ≡ places_in s.entries → places_of_all ns ≡ length ps
    places_total ps e =
        ap places_of_all same
        ∙ sym f.entries.total
        ∙ sym (length-map s.entries.records.now place_from)
        ∙ sym (ap length e)

  pub most_picks : (ks : List Kind) → ks ≡ kinds_in s.picks → length ks ≤ 2048
  most_picks ks e = omega (arith, ap length e, few_kinds (joined s.picks.records.now), f.picks.most)
