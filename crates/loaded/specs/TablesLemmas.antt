-- What lawful tables hold, and what the questions find in them.
use Rattle.std.specs.Prelude.{◌≡◌, ℕ, zero, suc, ◌+◌, ◌<◌, ◌≤◌, Bool, true, ◌&&◌, List, [], ◌∷◌, map, length, get_or, take, drop, Some, None, Option, ◌==◌, nat_le, slice_index_or}
use Rattle.std.proofs.Common.{sym, ap, ◌∙◌, inl, inr, arith, length-take, length-drop, get_or-take, get_or-drop}
use Rattle.std.proofs.lemmas.List.{get_or-map, get_or_past, get_or_read, length-map}
use Rattle.std.proofs.lemmas.Bool.{and_parts, and_from, cases_lt, le-leb, eq-eqb}
use Rattle.std.proofs.lemmas.Bool.Decides.{nat_tests}
use Rattle.book.specs.Model.{Node, Model, BookShape, no_node, node_count}
use Rattle.book.specs.Model as model
use Rattle.book.specs.declared.kind.Kind.{Kind}
use Rattle.book.specs.declared.place.Entry.{Entry}
use Rattle.loaded.specs.declared.record.NodeRecord.{NodeRecord}
use Rattle.std.specs.Option.{option_map, MatchOption}
use Rattle.std.specs.Slice.{IsGetResult}
use Rattle.std.specs.Borrow.{Bor}
use Rattle.loaded.specs.Tables.{target_fits, node_of, book_of, places_of_all, firsts_add_up, within_limits, lawful_nodes, all_targets_fit}

module _ (rs : List NodeRecord) (ps : List (Option Entry)) (ks : List Kind) where
  pub at_node_lem : (i : ℕ) (r : NodeRecord) → i < length rs → r ≡ slice_index_or rs i r → model.node_of (book_of rs ps ks) i ≡ node_of ps r
  at_node_lem i r h e = get_or-map (node_of ps) rs i r no_node h ∙ ap (node_of ps) (sym e)

  pub past_node : (i : ℕ) → length rs ≤ i → model.node_of (book_of rs ps ks) i ≡ no_node
  past_node i h = get_or_past (map (node_of ps) rs) i no_node (omega (arith, length-map rs (node_of ps)))

  pub count_is : node_count (book_of rs ps ks) ≡ length rs
  count_is = length-map rs (node_of ps)

-- a node's places end where all the places do, or before
within : (e : ℕ) (rs : List NodeRecord) (i : ℕ) (d : NodeRecord) → i < length rs → firsts_add_up e rs ≡ true → (get_or rs i d).first + (get_or rs i d).places ≤ e + places_of_all rs
within e [] i d h f = absurd (omega arith)
within e (r ∷ rs) zero d h f =
    let t = and_parts (r.first == e) (firsts_add_up (e + r.places) rs) f in
    grind (arith, nat_tests)
within e (r ∷ rs) (suc i) d h f =
    let t = and_parts (r.first == e) (firsts_add_up (e + r.places) rs) f in
    let rest = within (e + r.places) rs i d (omega arith) t.1 in
    omega arith

pub within_at : (rs : List NodeRecord) (i : ℕ) (r : NodeRecord) → i < length rs → r ≡ slice_index_or rs i r → lawful_nodes rs ≡ true → r.first + r.places ≤ places_of_all rs
within_at rs i r h e w =
    let t = and_parts (within_limits rs) (firsts_add_up 0 rs) w in
    let l = within 0 rs i r h t.1 in
    rw e (omega arith)

pub places_are : (ps : List (Option Entry)) (r : NodeRecord) → r.first + r.places ≤ length ps → length (node_of ps r).places ≡ r.places
places_are ps r w = simp (length-take, length-drop) (omega arith)

pub at_place : (ps : List (Option Entry)) (r : NodeRecord) (i : ℕ) (p : Option Entry) → i < r.places → p ≡ slice_index_or ps (r.first + i) p → r.first + r.places ≤ length ps → slice_index_or (node_of ps r).places i None ≡ p
at_place ps r i p h e w =
    get_or-take r.places (drop r.first ps) i None h
    ∙ get_or-drop r.first ps i None
    ∙ sym (get_or_read ps (r.first + i) p (omega arith) e None)

-- the kind that a look into the table finds
pub kind_found : (ks : List Kind) (p : ℕ) (r : Option (Bor Kind)) → IsGetResult ks p p r → option_map (λ (x : Bor Kind). x.now) r ≡ slice_index_or (map Some ks) p None
kind_found ks p None h = sym (get_or_past (map Some ks) p None (omega (arith, length-map ks Some, h.3)))
kind_found ks p (Some k) h = sym (get_or-map Some ks p k.now None h.3.0 ∙ ap Some (sym h.1))

-- how many places the node has that a look into the table finds
pub places_counted : (rs : List NodeRecord) (ps : List (Option Entry)) (ks : List Kind) (n count : ℕ) (P : Bor NodeRecord → Type 0) → ((x : Bor NodeRecord) → P x → count ≡ x.now.places) → (found : Option (Bor NodeRecord)) → IsGetResult rs n n found → MatchOption found (count ≡ 0) P → lawful_nodes rs ≡ true → places_of_all rs ≡ length ps → count ≡ model.place_count (book_of rs ps ks) n
places_counted rs ps ks n count P h None g e l t = e ∙ sym (ap (λ (m : Node). length m.places) (past_node rs ps ks n g.3))
places_counted rs ps ks n count P h (Some x) g e l t =
    let node = at_node_lem rs ps ks n x.now g.3.0 g.1 in
    let ends = within_at rs n x.now g.3.0 g.1 l in
    h x e ∙ sym (ap (λ (m : Node). length m.places) node ∙ places_are ps x.now (omega arith))

low : (ps : List (Option Entry)) (rs : List NodeRecord) → within_limits rs ≡ true → (n : ℕ) → (get_or (map (node_of ps) rs) n no_node).level ≤ 7
low ps [] w n = omega arith
low ps (r ∷ rs) w zero =
    let t = and_parts (nat_le r.level 7 && nat_le r.places 16) (within_limits rs) w in
    let l = and_parts (nat_le r.level 7) (nat_le r.places 16) t.0 in
    grind (arith, nat_tests)
low ps (r ∷ rs) w (suc n) = low ps rs (and_parts (nat_le r.level 7 && nat_le r.places 16) (within_limits rs) w).1 n

few : (ps : List (Option Entry)) (rs : List NodeRecord) → within_limits rs ≡ true → (n : ℕ) → length (get_or (map (node_of ps) rs) n no_node).places ≤ 16
few ps [] w n = omega arith
few ps (r ∷ rs) w zero =
    let t = and_parts (nat_le r.level 7 && nat_le r.places 16) (within_limits rs) w in
    let l = and_parts (nat_le r.level 7) (nat_le r.places 16) t.0 in
    let m : r.places ≤ 16 = grind (arith, nat_tests) in
    simp (length-take, length-drop) (omega arith)
few ps (r ∷ rs) w (suc n) = few ps rs (and_parts (nat_le r.level 7 && nat_le r.places 16) (within_limits rs) w).1 n

abbrev Fits : Option Entry → Type 0
Fits (Some e) = e.target < 65536
Fits None = Unit {0}

fit_here : (p : Option Entry) → target_fits p ≡ true → Fits p
fit_here (Some e) h = grind (arith, nat_tests)
fit_here None h = tt

fit : (ps : List (Option Entry)) → all_targets_fit ps ≡ true → (i : ℕ) → Fits (slice_index_or ps i None)
fit [] h i = tt
fit (p ∷ ps) h zero = fit_here p (and_parts (target_fits p) (all_targets_fit ps) h).0
fit (p ∷ ps) h (suc i) = fit ps (and_parts (target_fits p) (all_targets_fit ps) h).1 i

fit_part : (ps : List (Option Entry)) → all_targets_fit ps ≡ true → (from count i : ℕ) → Fits (slice_index_or (take count (drop from ps)) i None)
fit_part ps h from count i =
    elim (cases_lt i count) [
      | inl l ↦ rw (get_or-take count (drop from ps) i None l, get_or-drop from ps i None) (fit ps h (from + i))
      | inr l ↦ rw (get_or_past (take count (drop from ps)) i None (simp (length-take, length-drop) (omega arith))) tt
    ]

fit_node : (ps : List (Option Entry)) → all_targets_fit ps ≡ true → (rs : List NodeRecord) (n i : ℕ) → Fits (slice_index_or (get_or (map (node_of ps) rs) n no_node).places i None)
fit_node ps h [] n i = tt
fit_node ps h (r ∷ rs) zero i = fit_part ps h r.first r.places i
fit_node ps h (r ∷ rs) (suc n) i = fit_node ps h rs n i

-- every book of lawful tables has a book's shape
pub shape : (rs : List NodeRecord) (ps : List (Option Entry)) (ks : List Kind) → 0 < length rs → length rs ≤ 512 → length ks ≤ 2048 → lawful_nodes rs ≡ true → all_targets_fit ps ≡ true → BookShape (book_of rs ps ks)
shape rs ps ks a b c l t =
    let w = (and_parts (within_limits rs) (firsts_add_up 0 rs) l).0 in
    record {
      some_node = omega (arith, count_is rs ps ks);
      nodes_most = omega (arith, count_is rs ps ks);
      picks_most = c;
      levels_most = low ps rs w;
      places_most = few ps rs w;
      targets_fit = fit_node ps t rs;
    }

pub limits_next : (r : NodeRecord) (rs : List NodeRecord) → r.level ≤ 7 → r.places ≤ 16 → within_limits (r ∷ rs) ≡ within_limits rs
limits_next r rs a b = ap (λ (t : Bool). t && within_limits rs) (and_from (nat_le r.level 7) (nat_le r.places 16) (le-leb r.level 7 a) (le-leb r.places 16 b))

pub firsts_next : (e : ℕ) (r : NodeRecord) (rs : List NodeRecord) → r.first ≡ e → firsts_add_up e (r ∷ rs) ≡ firsts_add_up (e + r.places) rs
firsts_next e r rs h = ap (λ (t : Bool). t && firsts_add_up (e + r.places) rs) (eq-eqb r.first e h)
