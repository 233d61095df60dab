-- A file that is laid out lawfully is read as its book.
use Rattle.std.proofs.Common.{◌≡◌, ℕ, suc, ◌+◌, ◌*◌, ◌/◌, ◌%◌, ◌<◌, ◌≤◌, true, ◌&&◌, eqb, leb, List, [], ◌∷◌, ◌++◌, map, length, get_or, take, drop, Some, Ok, sym, refl, ap, ◌∙◌, suc-mul, arith, length-append}
use lib.ListN.{length-map}
use Rattle.std.proofs.lemmas.List.{take_at, drop_at, append-nil}
use Rattle.std.proofs.lemmas.Bool.{and_from, le-leb, eq-eqb}
use Rattle.std.specs.List.{flat_map, AllByRecursion}
use Rattle.book.specs.Kinds.{number_of, kind_with}
use Rattle.book.specs.Model.{Model}
use Rattle.book.specs.declared.kind.Kind.{Kind}
use Rattle.book.specs.declared.kind.Kind.TheVariants.{CasingTop, Collar, Perforation, Marker, FluidLevel}
use Rattle.loaded.specs.declared.record.NodeRecord.{NodeRecord}
use Rattle.loaded.specs.Reading.{read, count_in, records_in}
use Rattle.loaded.specs.Tables.{places_of_all, within_limits, firsts_add_up, lawful_nodes}
use Rattle.loaded.specs.Decode.{nodes_from, place_from, all_kinds, kinds_from, node_section, entry_section, pick_section, three_sections, decode}
use Rattle.loaded.specs.Lawful.{short_bytes, section, node_bytes, kind_bytes, FirstsAddUp, LawfulFile}
use Rattle.loaded.proofs.Cut.{joined_rows}
use Rattle.loaded.proofs.Reading.{count_is, records_are}

short_back : (n : ℕ) → n % 256 + n / 256 * 256 ≡ n
short_back n = omega arith

count_laid : (least most n : ℕ) (rest : List ℕ) → least ≤ n → n ≤ most → count_in least most (short_bytes n ++ rest) ≡ Ok (read n rest)
count_laid least most n rest a b =
    let e = short_back n in
    count_is least most (short_bytes n ++ rest) (omega arith) (omega arith) (omega arith)
    ∙ ap (λ (m : ℕ). Ok (read m rest)) e

records_laid : (n size : ℕ) (rs rest : List ℕ) → length rs ≡ n * size → records_in n size (rs ++ rest) ≡ Ok (read rs rest)
records_laid n size rs rest e =
    records_are n size (rs ++ rest) (omega (arith, length-append rs rest))
    ∙ ap (λ (xs : List ℕ). Ok (read xs (drop (n * size) (rs ++ rest)))) (take_at rs rest (n * size) e)
    ∙ ap (λ (xs : List ℕ). Ok (read rs xs)) (drop_at rs rest (n * size) e)

all_of : {A : Type 0} {P : A → Type 0} (xs : List A) → ((x : A) → P x) → AllByRecursion P xs
all_of [] h = tt
all_of (x ∷ xs) h = (h x, all_of xs h)

module _ {A : Type 0} (bytes_of : A → List ℕ) where
  joined_map : (xs : List A) → flat_map (λ (r : List ℕ). r) (map bytes_of xs) ≡ flat_map bytes_of xs
  joined_map [] = refl
  joined_map (x ∷ xs) = ap (λ (rest : List ℕ). bytes_of x ++ rest) (joined_map xs)

  length_joined : (size : ℕ) (xs : List A) → AllByRecursion (λ (x : A). length (bytes_of x) ≡ size) xs → length (flat_map bytes_of xs) ≡ length xs * size
  length_joined size [] h = omega arith
  length_joined size (x ∷ xs) h =
      length-append (bytes_of x) (flat_map bytes_of xs)
      ∙ omega (arith, h.0, length_joined size xs h.1, suc-mul (length xs) size)

nodes_back : (nodes : List NodeRecord) → nodes_from (length nodes) (flat_map node_bytes nodes) ≡ nodes
nodes_back [] = refl
nodes_back (r ∷ rs) =
    ap (λ (first : ℕ). record { level = r.level; places = r.places; first = first } ∷ nodes_from (length rs) (flat_map node_bytes rs)) (short_back r.first)
    ∙ ap (λ (nodes : List NodeRecord). r ∷ nodes) (nodes_back rs)

kind_back : (k : Kind) → kind_with (number_of k) ≡ Some k
kind_back CasingTop = refl
kind_back Collar = refl
kind_back Perforation = refl
kind_back Marker = refl
kind_back FluidLevel = refl

kinds_back : (ks : List Kind) → kinds_from (flat_map kind_bytes ks) ≡ ks
kinds_back [] = refl
kinds_back (k ∷ ks) = rw (kind_back k, kinds_back ks)

kinds_all_back : (ks : List Kind) → all_kinds (flat_map kind_bytes ks) ≡ true
kinds_all_back [] = refl
kinds_all_back (k ∷ ks) = rw (kind_back k, kinds_all_back ks)

limits_laid : (nodes : List NodeRecord) → AllByRecursion (λ (r : NodeRecord). r.level ≤ 7) nodes → AllByRecursion (λ (r : NodeRecord). r.places ≤ 16) nodes → within_limits nodes ≡ true
limits_laid [] a b = refl
limits_laid (r ∷ rs) a b =
    and_from (leb r.level 7 && leb r.places 16) (within_limits rs)
    (and_from (leb r.level 7) (leb r.places 16) (le-leb r.level 7 a.0) (le-leb r.places 16 b.0))
    (limits_laid rs a.1 b.1)

firsts_laid : (e : ℕ) (nodes : List NodeRecord) → ((i : ℕ) (d : NodeRecord) → i < length nodes → (get_or nodes i d).first ≡ e + places_of_all (take i nodes)) → firsts_add_up e nodes ≡ true
firsts_laid e [] h = refl
firsts_laid e (r ∷ rs) h =
    and_from (eqb r.first e) (firsts_add_up (e + r.places) rs)
    (eq-eqb r.first e (omega (arith, h 0 r (omega arith))))
    (firsts_laid (e + r.places) rs (λ i d l. h (suc i) d (omega arith) ∙ omega arith))

lawful_laid : (nodes : List NodeRecord) → AllByRecursion (λ (r : NodeRecord). r.level ≤ 7) nodes → AllByRecursion (λ (r : NodeRecord). r.places ≤ 16) nodes → FirstsAddUp nodes → lawful_nodes nodes ≡ true
lawful_laid nodes a b f =
    and_from (within_limits nodes) (firsts_add_up 0 nodes) (limits_laid nodes a b)
    (firsts_laid 0 nodes (λ i d l. f i d l ∙ omega arith))

-- a section of records that are given by what stands in them
section_map : {A : Type 0} (bytes_of : A → List ℕ) (xs : List A) (rest : List ℕ) → section (map bytes_of xs) ++ rest ≡ short_bytes (length xs) ++ (flat_map bytes_of xs ++ rest)
section_map bytes_of xs rest = rw (length-map, joined_map bytes_of xs)

nodes_laid : (nodes : List NodeRecord) (rest : List ℕ) → 1 ≤ length nodes → length nodes ≤ 512 → lawful_nodes nodes ≡ true → node_section (section (map node_bytes nodes) ++ rest) ≡ Ok (read nodes rest)
unfolding node_section
nodes_laid nodes rest a b l =
    let all = flat_map node_bytes nodes in
    let size = length_joined node_bytes 4 nodes (all_of nodes (λ _. refl)) in
    rw (section_map node_bytes nodes rest, count_laid 1 512 (length nodes) (all ++ rest) a b, records_laid (length nodes) 4 all rest size, nodes_back nodes, l)

entries_laid : (es : List (List ℕ)) (rest : List ℕ) → length es ≤ 2048 → AllByRecursion (λ (e : List ℕ). length e ≡ 26) es → (places : ℕ) → places ≡ length es → entry_section places (section es ++ rest) ≡ Ok (read (map place_from es) rest)
unfolding entry_section
entries_laid es rest b sizes places total =
    let all = flat_map (λ (e : List ℕ). e) es in
    let size = length_joined (λ (e : List ℕ). e) 26 es sizes in
    rw (count_laid 0 2048 (length es) (all ++ rest) (omega arith) b, eq-eqb (length es) places (sym total), records_laid (length es) 26 all rest size, joined_rows 26 place_from es sizes)

picks_laid : (ks : List Kind) (rest : List ℕ) → length ks ≤ 2048 → pick_section (section (map kind_bytes ks) ++ rest) ≡ Ok (read ks rest)
unfolding pick_section
picks_laid ks rest b =
    let all = flat_map kind_bytes ks in
    let size = length_joined kind_bytes 1 ks (all_of ks (λ _. refl)) in
    rw (section_map kind_bytes ks rest, count_laid 0 2048 (length ks) (all ++ rest) (omega arith) b, records_laid (length ks) 1 all rest size, kinds_all_back ks, kinds_back ks)

pub laid_decodes : (bytes : List ℕ) (book : Model) → LawfulFile bytes book → decode bytes ≡ Ok book
unfolding decode three_sections
laid_decodes bytes book f =
    let es = section f.entries in
    let ks = section (map kind_bytes f.picks) in
    let l = lawful_laid f.nodes f.levels_most f.places_most f.first_entries in
    rw (f.laid_out, nodes_laid f.nodes (es ++ ks) f.some_node f.nodes_most l, sym (append-nil ks), entries_laid f.entries (ks ++ []) f.entries_most f.entry_size (places_of_all f.nodes) f.places_total, picks_laid f.picks [] f.picks_most, f.holds)
