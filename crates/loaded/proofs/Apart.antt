-- A file that is read as a book is laid out lawfully.
use Rattle.std.proofs.Common.{◌≡◌, ℕ, zero, suc, ◌+◌, ◌*◌, ◌/◌, ◌%◌, ◌<◌, ◌≤◌, Bool, true, false, ◌&&◌, eqb, leb, List, [], ◌∷◌, ◌++◌, map, length, get_or, take, drop, is_some, Some, None, Ok, Err, Option, Result, sym, refl, ap, ◌∙◌, subst, suc-mul, mul-one, arith, length-take}
use lib.ListN.{length-map}
use Rattle.std.proofs.lemmas.List.{take-append-drop, append-nil, nil_from_length}
use Rattle.std.proofs.lemmas.Bool.{and_parts, leb-true, eqb-true}
use Rattle.std.proofs.lemmas.Bool.Decides.{nat_tests}
use Rattle.std.specs.List.{flat_map, AllByRecursion}
use Rattle.refusal.specs.Told.{Told}
use Rattle.book.specs.Kinds.{number_of, kind_with}
use Rattle.book.specs.Model.{Model}
use Rattle.book.specs.declared.kind.Kind.{Kind}
use Rattle.book.specs.declared.kind.Kind.TheVariants.{CasingTop, Collar, Perforation, Marker, FluidLevel}
use Rattle.book.specs.declared.place.Entry.{Entry}
use Rattle.loaded.specs.declared.record.NodeRecord.{NodeRecord}
use Rattle.loaded.specs.Reading.{Read, read, after, tested, count_in, records_in}
use Rattle.loaded.specs.Tables.{book_of, places_of_all, within_limits, firsts_add_up, lawful_nodes}
use Rattle.loaded.specs.Decode.{nodes_from, place_from, places_from, all_kinds, with_kind, kinds_from, node_section, entry_section, pick_section, three_sections, decode}
use Rattle.std.specs.Simd.{first_chunks}
use Rattle.loaded.proofs.Cut.{chunks_joined, chunks_each, chunks_long, chunks_rows}
use Rattle.loaded.proofs.Filling.{length_rows}
use Rattle.loaded.specs.Decode.{node_from}
use Rattle.loaded.specs.Lawful.{short_bytes, section, node_bytes, kind_bytes, LawfulFile}

abbrev Bytes : List ℕ → Type 0
Bytes = AllByRecursion (λ (b : ℕ). b < 256)

refused : {A B : Type 0} {t : Told} {b : B} → Err t ≡ Ok b → A
refused e = absurd cc

ok_same : {A : Type 0} (x y : A) → ◌≡◌ {A = Result A Told} (Ok x) (Ok y) → x ≡ y
ok_same x y e = cc

after_ok : {A B : Type 0} (r : Result (Read A) Told) (next : A → List ℕ → Result B Told) (b : B) → after r next ≡ Ok b → (x : Read A) × (r ≡ Ok x) × (next x.value x.rest ≡ Ok b)
after_ok (Ok x) next b h = (x, refl, h)
after_ok (Err t) next b h = refused h

tested_ok : {B : Type 0} (k : ℕ) (t : Bool) (next : Result B Told) (b : B) → tested k t next ≡ Ok b → (t ≡ true) × (next ≡ Ok b)
tested_ok k true next b h = (refl, h)
tested_ok k false next b h = refused h

record Counted (least most : ℕ) (bytes : List ℕ) (x : Read ℕ) : Type 0 where
  laid : bytes ≡ short_bytes x.value ++ x.rest
  above : least ≤ x.value
  below : x.value ≤ most
  rest : Bytes x.rest

count_apart : (least most : ℕ) (bytes : List ℕ) (x : Read ℕ) → Bytes bytes → count_in least most bytes ≡ Ok x → Counted least most bytes x
unfolding count_in
count_apart least most [] x h e = refused e
count_apart least most (b ∷ []) x h e = refused e
count_apart least most (b ∷ c ∷ rest) x h e =
    let n = b + c * 256 in
    let one = tested_ok 1 (leb 2 (length (b ∷ c ∷ rest))) (tested 2 (leb least n && leb n most) (Ok (read n rest))) x e in
    let two = tested_ok 2 (leb least n && leb n most) (Ok (read n rest)) x one.1 in
    let limits = and_parts (leb least n) (leb n most) two.0 in
    let low : n % 256 ≡ b = omega (arith, h.0, h.1.0) in
    let high : n / 256 ≡ c = omega (arith, h.0, h.1.0) in
    subst (λ (y : Read ℕ). Counted least most (b ∷ c ∷ rest) y) (ok_same (read n rest) x two.1)
    (record {
      laid = sym (ap (λ (m : ℕ). m ∷ (n / 256) ∷ rest) low ∙ ap (λ (m : ℕ). b ∷ m ∷ rest) high);
      above = leb-true least n limits.0;
      below = leb-true n most limits.1;
      rest = h.1.1;
    })

bytes_take : (n : ℕ) (bs : List ℕ) → Bytes bs → Bytes (take n bs)
bytes_take zero bs h = tt
bytes_take (suc n) [] h = tt
bytes_take (suc n) (b ∷ bs) h = (h.0, bytes_take n bs h.1)

bytes_drop : (n : ℕ) (bs : List ℕ) → Bytes bs → Bytes (drop n bs)
bytes_drop zero bs h = h
bytes_drop (suc n) [] h = tt
bytes_drop (suc n) (b ∷ bs) h = bytes_drop n bs h.1

record Cut (n size : ℕ) (bytes : List ℕ) (x : Read (List ℕ)) : Type 0 where
  laid : bytes ≡ x.value ++ x.rest
  long : length x.value ≡ n * size
  here : Bytes x.value
  rest : Bytes x.rest

records_apart : (n size : ℕ) (bytes : List ℕ) (x : Read (List ℕ)) → Bytes bytes → records_in n size bytes ≡ Ok x → Cut n size bytes x
unfolding records_in
records_apart n size bytes x h e =
    let y = read (take (n * size) bytes) (drop (n * size) bytes) in
    let one = tested_ok 1 (leb (n * size) (length bytes)) (Ok y) x e in
    let there = leb-true (n * size) (length bytes) one.0 in
    subst (λ (y : Read (List ℕ)). Cut n size bytes y) (ok_same y x one.1)
    (record {
      laid = sym (take-append-drop (n * size) bytes);
      long = simp length-take (omega arith);
      here = bytes_take (n * size) bytes h;
      rest = bytes_drop (n * size) bytes h;
    })

-- the bytes of node records are those of the nodes in them
nodes_apart : (n : ℕ) (raw : List ℕ) → length raw ≡ n * 4 → Bytes raw → flat_map (λ (r : List ℕ). r) (map node_bytes (nodes_from n raw)) ≡ raw
nodes_apart zero raw e h = sym (nil_from_length raw (omega arith))
nodes_apart (suc n) [] e h = absurd (omega (arith, suc-mul n 4))
nodes_apart (suc n) (a ∷ []) e h = absurd (omega (arith, suc-mul n 4))
nodes_apart (suc n) (a ∷ b ∷ []) e h = absurd (omega (arith, suc-mul n 4))
nodes_apart (suc n) (a ∷ b ∷ c ∷ []) e h = absurd (omega (arith, suc-mul n 4))
nodes_apart (suc n) (a ∷ b ∷ c ∷ d ∷ raw) e h =
    let low : (c + d * 256) % 256 ≡ c = omega (arith, h.1.1.0, h.1.1.1.0) in
    let high : (c + d * 256) / 256 ≡ d = omega (arith, h.1.1.0, h.1.1.1.0) in
    let rest = flat_map (λ (r : List ℕ). r) (map node_bytes (nodes_from n raw)) in
    ap (λ (m : ℕ). a ∷ b ∷ m ∷ ((c + d * 256) / 256) ∷ rest) low
    ∙ ap (λ (m : ℕ). a ∷ b ∷ c ∷ m ∷ rest) high
    ∙ ap (λ (bs : List ℕ). a ∷ b ∷ c ∷ d ∷ bs) (nodes_apart n raw (omega (arith, suc-mul n 4)) h.1.1.1.1)

number_of_lem : (b : ℕ) (k : Kind) → kind_with b ≡ Some k → number_of k ≡ b
number_of_lem b CasingTop e = grind (arith, nat_tests)
number_of_lem b Collar e = grind (arith, nat_tests)
number_of_lem b Perforation e = grind (arith, nat_tests)
number_of_lem b Marker e = grind (arith, nat_tests)
number_of_lem b FluidLevel e = grind (arith, nat_tests)

kind_apart : (o : Option Kind) (b : ℕ) (raw : List ℕ) → kind_with b ≡ o → is_some o ≡ true → flat_map (λ (r : List ℕ). r) (map kind_bytes (kinds_from raw)) ≡ raw → flat_map (λ (r : List ℕ). r) (map kind_bytes (with_kind o (kinds_from raw))) ≡ b ∷ raw
kind_apart (Some k) b raw e s h = ap (λ (m : ℕ). m ∷ flat_map (λ (r : List ℕ). r) (map kind_bytes (kinds_from raw))) (number_of_lem b k e) ∙ ap (λ (bs : List ℕ). b ∷ bs) h
kind_apart None b raw e s h = absurd cc

kind_counts : (o : Option Kind) (ks : List Kind) → is_some o ≡ true → length (with_kind o ks) ≡ suc (length ks)
kind_counts (Some k) ks h = refl
kind_counts None ks h = absurd cc

-- the bytes of pick records are the numbers of the kinds in them
kinds_apart : (raw : List ℕ) → all_kinds raw ≡ true → flat_map (λ (r : List ℕ). r) (map kind_bytes (kinds_from raw)) ≡ raw
kinds_apart [] h = refl
kinds_apart (b ∷ raw) h =
    let t = and_parts (is_some (kind_with b)) (all_kinds raw) h in
    kind_apart (kind_with b) b raw refl t.0 (kinds_apart raw t.1)

kinds_count : (raw : List ℕ) → all_kinds raw ≡ true → length (kinds_from raw) ≡ length raw
kinds_count [] h = refl
kinds_count (b ∷ raw) h =
    let t = and_parts (is_some (kind_with b)) (all_kinds raw) h in
    kind_counts (kind_with b) (kinds_from raw) t.0 ∙ ap suc (kinds_count raw t.1)

levels_apart : (nodes : List NodeRecord) → within_limits nodes ≡ true → AllByRecursion (λ (r : NodeRecord). r.level ≤ 7) nodes
levels_apart [] h = tt
levels_apart (r ∷ rs) h =
    let t = and_parts (leb r.level 7 && leb r.places 16) (within_limits rs) h in
    (leb-true r.level 7 (and_parts (leb r.level 7) (leb r.places 16) t.0).0, levels_apart rs t.1)

places_apart : (nodes : List NodeRecord) → within_limits nodes ≡ true → AllByRecursion (λ (r : NodeRecord). r.places ≤ 16) nodes
places_apart [] h = tt
places_apart (r ∷ rs) h =
    let t = and_parts (leb r.level 7 && leb r.places 16) (within_limits rs) h in
    (leb-true r.places 16 (and_parts (leb r.level 7) (leb r.places 16) t.0).1, places_apart rs t.1)

firsts_apart : (e : ℕ) (nodes : List NodeRecord) → firsts_add_up e nodes ≡ true → (i : ℕ) (d : NodeRecord) → i < length nodes → (get_or nodes i d).first ≡ e + places_of_all (take i nodes)
firsts_apart e [] h i d l = absurd (omega arith)
firsts_apart e (r ∷ rs) h zero d l = omega (arith, eqb-true r.first e (and_parts (eqb r.first e) (firsts_add_up (e + r.places) rs) h).0)
firsts_apart e (r ∷ rs) h (suc i) d l =
    firsts_apart (e + r.places) rs (and_parts (eqb r.first e) (firsts_add_up (e + r.places) rs) h).1 i d (omega arith) ∙ omega arith

-- a section, put together again from its count and its records
section_again : (n : ℕ) (records : List (List ℕ)) (bytes past raw rest : List ℕ) → length records ≡ n → flat_map (λ (r : List ℕ). r) records ≡ raw → bytes ≡ short_bytes n ++ past → past ≡ raw ++ rest → bytes ≡ section records ++ rest
section_again n records bytes past raw rest c j a b =
    a
    ∙ ap (λ (bs : List ℕ). short_bytes n ++ bs) (b ∙ ap (λ (bs : List ℕ). bs ++ rest) (sym j))
    ∙ ap (λ (m : ℕ). short_bytes m ++ (flat_map (λ (r : List ℕ). r) records ++ rest)) (sym c)

record NodesApart (bytes : List ℕ) (x : Read (List NodeRecord)) : Type 0 where
  laid : bytes ≡ section (map node_bytes x.value) ++ x.rest
  some : 1 ≤ length x.value
  most : length x.value ≤ 512
  lawful : lawful_nodes x.value ≡ true
  rest : Bytes x.rest

node_section_apart : (bytes : List ℕ) (x : Read (List NodeRecord)) → Bytes bytes → node_section bytes ≡ Ok x → NodesApart bytes x
unfolding node_section
node_section_apart bytes x h e =
    let last : ℕ → List ℕ → List ℕ → Result (Read (List NodeRecord)) Told = λ n records rest. tested 3 (lawful_nodes (nodes_from n records)) (Ok (read (nodes_from n records) rest)) in
    let one = after_ok (count_in 1 512 bytes) (λ n rest. after (records_in n 4 rest) (last n)) x e in
    let n = one.0.value in
    let c = count_apart 1 512 bytes one.0 h one.1 in
    let two = after_ok (records_in n 4 one.0.rest) (last n) x one.2 in
    let raw = two.0.value in
    let r = records_apart n 4 one.0.rest two.0 c.rest two.1 in
    let three = tested_ok 3 (lawful_nodes (nodes_from n raw)) (Ok (read (nodes_from n raw) two.0.rest)) x two.2 in
    let count = length_rows node_from 4 n raw in
    subst (NodesApart bytes) (ok_same (read (nodes_from n raw) two.0.rest) x three.1)
    (record {
      laid = section_again n (map node_bytes (nodes_from n raw)) bytes one.0.rest raw two.0.rest (length-map (nodes_from n raw) node_bytes ∙ count) (nodes_apart n raw r.long r.here) c.laid r.laid;
      some = omega (arith, count, c.above);
      most = omega (arith, count, c.below);
      lawful = three.0;
      rest = r.rest;
    })

record EntriesApart (places : ℕ) (bytes : List ℕ) (x : Read (List (Option Entry))) : Type 0 where
  entries : List (List ℕ)
  laid : bytes ≡ section entries ++ x.rest
  most : length entries ≤ 2048
  sized : AllByRecursion (λ (e : List ℕ). length e ≡ 26) entries
  total : places ≡ length entries
  holds : x.value ≡ map place_from entries
  rest : Bytes x.rest

entry_section_apart : (places : ℕ) (bytes : List ℕ) (x : Read (List (Option Entry))) → Bytes bytes → entry_section places bytes ≡ Ok x → EntriesApart places bytes x
unfolding entry_section
entry_section_apart places bytes x h e =
    let last : ℕ → List ℕ → List ℕ → Result (Read (List (Option Entry))) Told = λ n records rest. Ok (read (places_from n records) rest) in
    let one = after_ok (count_in 0 2048 bytes) (λ n rest. tested 3 (eqb n places) (after (records_in n 26 rest) (last n))) x e in
    let n = one.0.value in
    let c = count_apart 0 2048 bytes one.0 h one.1 in
    let sum = tested_ok 3 (eqb n places) (after (records_in n 26 one.0.rest) (last n)) x one.2 in
    let two = after_ok (records_in n 26 one.0.rest) (last n) x sum.1 in
    let raw = two.0.value in
    let r = records_apart n 26 one.0.rest two.0 c.rest two.1 in
    let count = chunks_long 26 n raw in
    subst (EntriesApart places bytes) (ok_same (read (places_from n raw) two.0.rest) x two.2)
    (record {
      entries = first_chunks 26 n raw;
      laid = section_again n (first_chunks 26 n raw) bytes one.0.rest raw two.0.rest count (chunks_joined 26 n raw r.long) c.laid r.laid;
      most = omega (arith, count, c.below);
      sized = chunks_each 26 n raw r.long;
      total = sym (count ∙ eqb-true n places sum.0);
      holds = sym (chunks_rows 26 place_from n raw);
      rest = r.rest;
    })

record PicksApart (bytes : List ℕ) (x : Read (List Kind)) : Type 0 where
  laid : bytes ≡ section (map kind_bytes x.value) ++ x.rest
  most : length x.value ≤ 2048

pick_section_apart : (bytes : List ℕ) (x : Read (List Kind)) → Bytes bytes → pick_section bytes ≡ Ok x → PicksApart bytes x
unfolding pick_section
pick_section_apart bytes x h e =
    let last : List ℕ → List ℕ → Result (Read (List Kind)) Told = λ records rest. tested 4 (all_kinds records) (Ok (read (kinds_from records) rest)) in
    let one = after_ok (count_in 0 2048 bytes) (λ n rest. after (records_in n 1 rest) last) x e in
    let n = one.0.value in
    let c = count_apart 0 2048 bytes one.0 h one.1 in
    let two = after_ok (records_in n 1 one.0.rest) last x one.2 in
    let raw = two.0.value in
    let r = records_apart n 1 one.0.rest two.0 c.rest two.1 in
    let three = tested_ok 4 (all_kinds raw) (Ok (read (kinds_from raw) two.0.rest)) x two.2 in
    let count : length (kinds_from raw) ≡ n = kinds_count raw three.0 ∙ r.long ∙ mul-one n in
    subst (PicksApart bytes) (ok_same (read (kinds_from raw) two.0.rest) x three.1)
    (record {
      laid = section_again n (map kind_bytes (kinds_from raw)) bytes one.0.rest raw two.0.rest (length-map (kinds_from raw) kind_bytes ∙ count) (kinds_apart raw three.0) c.laid r.laid;
      most = omega (arith, count, c.below);
    })

pub decoded_lawful : (bytes : List ℕ) (book : Model) → Bytes bytes → decode bytes ≡ Ok book → LawfulFile bytes book
unfolding decode three_sections
decoded_lawful bytes book h e =
    let whole = after_ok (three_sections bytes) (λ found rest. tested 1 (eqb (length rest) 0) (Ok found)) book e in
    let end = tested_ok 1 (eqb (length whole.0.rest) 0) (Ok whole.0.value) book whole.2 in
    let gives : List NodeRecord → List (Option Entry) → List Kind → List ℕ → Result (Read Model) Told = λ nodes places kinds rest. Ok (read (book_of nodes places kinds) rest) in
    let one = after_ok (node_section bytes) (λ nodes rest. after (entry_section (places_of_all nodes) rest) (λ places rest. after (pick_section rest) (gives nodes places))) whole.0 whole.1 in
    let nodes = one.0.value in
    let n = node_section_apart bytes one.0 h one.1 in
    let two = after_ok (entry_section (places_of_all nodes) one.0.rest) (λ places rest. after (pick_section rest) (gives nodes places)) whole.0 one.2 in
    let m = entry_section_apart (places_of_all nodes) one.0.rest two.0 n.rest two.1 in
    let three = after_ok (pick_section two.0.rest) (gives nodes two.0.value) whole.0 two.2 in
    let p = pick_section_apart two.0.rest three.0 m.rest three.1 in
    let found = ok_same (read (book_of nodes two.0.value three.0.value) three.0.rest) whole.0 three.2 in
    let nothing = nil_from_length three.0.rest (ap (λ (x : Read Model). length x.rest) found ∙ eqb-true (length whole.0.rest) 0 end.0) in
    let ks = section (map kind_bytes three.0.value) in
    let limits = and_parts (within_limits nodes) (firsts_add_up 0 nodes) n.lawful in
    record {
      nodes = nodes;
      entries = m.entries;
      picks = three.0.value;
      laid_out =
          n.laid
          ∙ ap (λ (bs : List ℕ). section (map node_bytes nodes) ++ bs)
          (m.laid ∙ ap (λ (bs : List ℕ). section m.entries ++ bs) (p.laid ∙ ap (λ (bs : List ℕ). ks ++ bs) nothing ∙ append-nil ks));
      some_node = n.some;
      nodes_most = n.most;
      entries_most = m.most;
      picks_most = p.most;
      levels_most = levels_apart nodes limits.0;
      places_most = places_apart nodes limits.0;
      first_entries = λ i d l. firsts_apart 0 nodes limits.1 i d l ∙ omega arith;
      places_total = m.total;
      entry_size = m.sized;
      holds =
          sym (ok_same whole.0.value book end.1)
          ∙ sym (ap (λ (x : Read Model). x.value) found)
          ∙ ap (λ (places : List (Option Entry)). book_of nodes places three.0.value) m.holds;
    }
