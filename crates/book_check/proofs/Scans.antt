-- What the scan knows at each turn, and what it has found when it stops.
use Rattle.std.specs.Bool.{⊤}
use Rattle.std.proofs.Common.{◌≡◌, ℕ, ◌+◌, ◌-◌, ◌<◌, ◌≤◌, true, false, not, ◌||◌, ◌⊎◌, Some, None, Ok, Err, Option, Result, sym, ap, ◌∙◌, inl, inr, ⊎_elim, arith}
use Rattle.std.specs.Option.{MatchOption, option_map}
use Rattle.std.proofs.lemmas.Bool.{ltb-true, cases_Bool}
use Rattle.refusal.specs.Told.{answered, tree_told, Told, at_node, at_place}
use Rattle.refusal.specs.declared.hands.TreeFault.{TreeFault}
use Rattle.refusal.specs.declared.hands.TreeFault.TheVariants.{Unnamed}
use Rattle.book.specs.Model.{Model, BookShape, node_count, pick_limit, place_count}
use Rattle.book_check.specs.Below.{first_below, count_below}
use Rattle.book_check.specs.Targets.{target_of, root_of, in_book, same}
use Rattle.book.specs.Totals.{total_places}
use Rattle.book_check.specs.Names.{named_before, is_named, picks_named}
use Rattle.book_check.specs.Sound.{when, unless, sound_target}
use Rattle.book_check.specs.Checked.{place_fault, node_fault, unnamed, tree_fault}
use Rattle.book_check.specs.Marks.{bit_of, HasBit, first_unnamed}
use Rattle.book_check.specs.declared.target.Target.{Target}
use Rattle.book_check.specs.declared.target.Target.TheVariants.{Pick, Child}
use Rattle.book_check.specs.declared.named.Named.{Named}
use Rattle.book_check.proofs.Belows.{first_no, first_none, first_at, first_more, first_same}
use Rattle.book_check.proofs.Bits.{count_same, count_past}
use Rattle.book_check.proofs.Sounds.{sound_parts}
use Rattle.book_check.proofs.Naming.{names_at, place_there, named_found, before_none, before_more, before_node, before_all}
use Rattle.book_check.proofs.Faults.{Fertile, place_none, place_unsound, place_twice, place_parts, node_none, node_barren, node_faulty, node_parts, tree_faulty, tree_unnamed}

-- the bits set are those of the targets named before place i of node n
abbrev pub Marked : Model → Named → ℕ → ℕ → Type 0
Marked m a n i = (t : Target) → bit_of a t ≡ named_before m n i t

-- ---- every target that is sound has a bit

in_bits : (m : Model) → BookShape m → (t : Target) → in_book m t ≡ true → HasBit t
in_bits m shape (Pick p) h = omega (arith, ltb-true p (pick_limit m) h, shape.picks_most)
in_bits m shape (Child k) h = omega (arith, ltb-true k (root_of m) h, shape.nodes_most)

pub has_bit : (m : Model) (n i : ℕ) (t : Target) → BookShape m → Ok t ≡ sound_target m n i → HasBit t
has_bit m n i t shape h = in_bits m shape t (sound_parts m n i t (sym h)).here

-- ---- the turns

pub marked_none : (m : Model) (a : Named) → ((t : Target) → bit_of a t ≡ false) → Marked m a 0 0
marked_none m a h t = h t ∙ sym (before_none m t)

-- no fault at the first i places of node n, and what they name is marked
abbrev pub Passed : Model → Named → ℕ → ℕ → Type 0
Passed m a n i = (first_below (place_fault m n) i ≡ None) × Marked m a n i

pub place_passed : (m : Model) (a b : Named) (n i : ℕ) (t : Target) → Passed m a n i → Ok t ≡ sound_target m n i → false ≡ bit_of a t → ((u : Target) → bit_of b u ≡ (same u t || bit_of a u)) → Passed m b n (i + 1)
place_passed m a b n i t p s h q =
    let r = sound_parts m n i t (sym s) in (
      first_more (place_fault m n) i p.0 (place_none m n i t (sym s) (sym (p.1 t) ∙ sym h)),
      λ u. q u ∙ (λ j. sym (names_at m n i r.entry t u r.stands r.target) j || p.1 u j) ∙ sym (before_more m n i u),
    )

-- no fault at the first n nodes, and what they name is marked
abbrev pub Scanned : Model → Named → ℕ → Type 0
Scanned m a n = (first_below (node_fault m) n ≡ None) × Marked m a n 0

pub node_passed : (m : Model) (a : Named) (n i : ℕ) → Fertile m n → first_below (node_fault m) n ≡ None → i ≡ place_count m n → Passed m a n i → Scanned m a (n + 1)
node_passed m a n i f h e p = (
  first_more (node_fault m) n h (node_none m n f (ap (first_below (place_fault m n)) (sym e) ∙ p.0)),
  λ u. p.1 u ∙ ap (λ k. named_before m n k u) e ∙ sym (before_node m n u),
)

-- ---- what stops the scan

pub stopped_barren : (m : Model) (n : ℕ) → total_places m ≤ 2048 → first_below (node_fault m) n ≡ None → n < node_count m → n < root_of m → place_count m n ≡ 0 → tree_fault m ≡ Some (at_node 13 n)
stopped_barren m n few h l r e = tree_faulty m n (at_node 13 n) few h l (node_barren m n r e)

pub stopped_unsound : (m : Model) (a : Named) (n i : ℕ) (f : Told) → total_places m ≤ 2048 → first_below (node_fault m) n ≡ None → n < node_count m → Fertile m n → Passed m a n i → i < place_count m n → Err f ≡ sound_target m n i → tree_fault m ≡ Some f
stopped_unsound m a n i f few h l p q k s =
    tree_faulty m n f few h l (node_faulty m n i f p q.0 k (place_unsound m n i f (sym s)))

pub stopped_twice : (m : Model) (a : Named) (n i : ℕ) (t : Target) → total_places m ≤ 2048 → first_below (node_fault m) n ≡ None → n < node_count m → Fertile m n → Passed m a n i → i < place_count m n → Ok t ≡ sound_target m n i → true ≡ bit_of a t → tree_fault m ≡ Some (at_place 18 n i)
stopped_twice m a n i t few h l p q k s b =
    tree_faulty m n _ few h l (node_faulty m n i _ p q.0 k (place_twice m n i t (sym s) (sym (q.1 t) ∙ sym b)))

-- ---- the whole book is scanned

-- `find` over the nodes below the root, for one that is not marked
pub searched : (a : Named) (root : ℕ) (r : Option ℕ) → MatchOption r ((k : ℕ) → 0 ≤ k → k < root → bit_of a (Child k) ≡ true) (λ n. (0 ≤ n) × (n < root) × (bit_of a (Child n) ≡ false) × ((k : ℕ) → 0 ≤ k → k < n → bit_of a (Child k) ≡ true)) → first_unnamed a root ≡ option_map (at_node 19) r
searched a root None h = first_no _ root (λ k l. ap (λ b. when (not b) (at_node 19 k)) (h k (omega arith) l))
searched a root (Some n) h =
    first_at _ root n (at_node 19 n) (first_no _ n (λ k l. ap (λ b. when (not b) (at_node 19 k)) (h.3 k (omega arith) l)))
    (ap (λ b. when (not b) (at_node 19 n)) h.2) h.1

-- a search that finds nothing is answered with nothing, and else with 19 at what it found
pub searched_told : (a : Named) (root : ℕ) (r : Option ℕ) (P : ℕ → Type 0) (told : Result ⊤ TreeFault) → first_unnamed a root ≡ option_map (at_node 19) r → MatchOption r (told ≡ Ok tt) P → ((n : ℕ) → P n → told ≡ Err (Unnamed n)) → answered tree_told told ≡ unless (first_unnamed a root) tt
searched_told a root None P told f h given = ap (answered tree_told) h ∙ sym (ap (λ x. unless x tt) f)
searched_told a root (Some n) P told f h given = ap (answered tree_told) (given n h) ∙ sym (ap (λ x. unless x tt) f)

pub all_marked : (m : Model) (a : Named) (n : ℕ) → n ≡ node_count m → Scanned m a n → (t : Target) → bit_of a t ≡ is_named m t
all_marked m a n e s t = s.1 t ∙ before_all m n t e

pub scanned_through : (m : Model) (a : Named) (n : ℕ) → total_places m ≤ 2048 → n ≡ node_count m → Scanned m a n → first_unnamed a (root_of m) ≡ tree_fault m
scanned_through m a n few e s =
    first_same (λ k. when (not (bit_of a (Child k))) (at_node 19 k)) (unnamed m) (root_of m)
    (λ k. ap (λ b. when (not b) (at_node 19 k)) (all_marked m a n e s (Child k)))
    ∙ sym (tree_unnamed m few (ap (first_below (node_fault m)) (sym e) ∙ s.0))

-- in a book whose nodes have no fault, what is named is in the book
pub named_in_book : (m : Model) (t : Target) → first_below (node_fault m) (node_count m) ≡ None → is_named m t ≡ true → in_book m t ≡ true
named_in_book m t h q =
    let r = named_found m t q in
    let n = r.node in
    let i = r.place in
    let p = node_parts m n (first_none (node_fault m) (node_count m) n h r.where_is) in
    let l = place_there m n i r.names.0 r.names.1 in
    let u = place_parts m n i (p.1 i l) in
    let s = sound_parts m n i u.0 u.1 in
    let same_entry : s.entry ≡ r.names.0 = cc (s.stands, r.names.1) in
    ap (in_book m) (sym r.names.2 ∙ ap (λ e. target_of m n e) (sym same_entry) ∙ s.target) ∙ s.here

pub count_marked : (m : Model) (a : Named) (n : ℕ) → BookShape m → n ≡ node_count m → Scanned m a n → count_below (λ p. bit_of a (Pick p)) 2048 ≡ picks_named m
unfolding picks_named
count_marked m a n shape e s =
    let all = all_marked m a n e s in
    let none = ap (first_below (node_fault m)) (sym e) ∙ s.0 in
    let past : (p : ℕ) → pick_limit m ≤ p → is_named m (Pick p) ≡ false =
    λ p l. ⊎_elim (λ b. absurd (let z = ltb-true p (pick_limit m) (named_in_book m (Pick p) none b) in omega arith)) (λ b. b) (cases_Bool (is_named m (Pick p))) in
    let whole : pick_limit m + (2048 - pick_limit m) ≡ 2048 = omega (arith, shape.picks_most) in
    count_same (λ p. bit_of a (Pick p)) (λ p. is_named m (Pick p)) 2048 (λ p _. all (Pick p))
    ∙ ap (count_below (λ p. is_named m (Pick p))) (sym whole)
    ∙ count_past (λ p. is_named m (Pick p)) (pick_limit m) (2048 - pick_limit m) past

-- ---- the tests as the code reads them: r is the root, v the number of places

pub fertile_from : (m : Model) (n r v : ℕ) → r ≡ root_of m → v ≡ place_count m n → (v ≡ 0 → ⊥) ⊎ (r ≤ n) → Fertile m n
fertile_from m n r v e q (inl h) = inr (omega arith)
fertile_from m n r v e q (inr h) = inl (omega arith)
