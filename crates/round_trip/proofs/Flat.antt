-- The places of all nodes, one after another.
use Rattle.std.proofs.Common.{◌≡◌, ℕ, suc, ◌+◌, ◌<◌, List, [], ◌∷◌, ◌++◌, length, get_or, None, Option, sym, refl, ap, ◌∙◌, arith, length-append, Some}
use Rattle.std.proofs.ByRecursion.{All-append, All-from_get_or}
use Rattle.std.proofs.lemmas.Grind.{flat_map-append}
use Rattle.std.specs.List.{flat_map, AllByRecursion}
use Rattle.book.specs.Model.{Node, no_node}
use Rattle.book.specs.Spoilt.{spoilt_place, spoilt_node}
use Rattle.book.specs.Totals.{places_in}
use Rattle.book.specs.declared.place.Entry.{Entry}
use Rattle.file.specs.Encode.{place_record, place_records, entry_records}

abbrev pub all_places : List Node → List (Option Entry)
all_places = flat_map (λ n. n.places)

pub count_all : (ns : List Node) → length (all_places ns) ≡ places_in ns
count_all [] = refl
count_all (n ∷ ns) = length-append n.places (all_places ns) ∙ ap (λ k. length n.places + k) (count_all ns)

pub records_all : (ns : List Node) → entry_records ns ≡ place_records (all_places ns)
records_all [] = refl
records_all (n ∷ ns) =
    ap (λ zs. place_records n.places ++ zs) (records_all ns) ∙ sym (flat_map-append place_record n.places (all_places ns))

abbrev pub IsFilled : Option Entry → Type 0
IsFilled (Some e) = Unit {0}
IsFilled None = ⊥

abbrev pub Fits : Option Entry → Type 0
Fits (Some e) = e.target < 65536
Fits None = Unit {0}

filled_here : (n i : ℕ) (ps : List (Option Entry)) (later : Option (ℕ × ℕ)) → spoilt_place n i ps later ≡ None → AllByRecursion IsFilled ps × (later ≡ None)
filled_here n i [] later none = (tt, none)
filled_here n i (Some e ∷ ps) later none = let rest = filled_here n (i + 1) ps later none in ((tt, rest.0), rest.1)
filled_here n i (None ∷ ps) later none = let wrong : ◌≡◌ {A = ℕ} 0 1 = cc in absurd (omega arith)

-- where no place is spoilt, each is filled
pub filled_all : (n : ℕ) (ns : List Node) → spoilt_node n ns ≡ None → AllByRecursion IsFilled (all_places ns)
filled_all n [] none = tt
filled_all n (x ∷ xs) none =
    let here = filled_here n 0 x.places (spoilt_node (n + 1) xs) none in
    All-append IsFilled x.places (all_places xs) here.0 (filled_all (n + 1) xs here.1)

pub fits_all : (ns : List Node) → ((n i : ℕ) → Fits (get_or (get_or ns n no_node).places i None)) → AllByRecursion Fits (all_places ns)
fits_all [] h = tt
fits_all (x ∷ xs) h =
    All-append Fits x.places (all_places xs) (All-from_get_or Fits x.places None (λ i within. h 0 i)) (fits_all xs (λ n. h (suc n)))
