-- The first fault of a book, part by part.
use Rattle.std.specs.Bool.{⊤}
use Rattle.std.proofs.Common.{◌≡◌, ℕ, ◌<◌, ◌≤◌, Bool, true, false, ◌&&◌, eqb, ltb, ◌⊎◌, [], ◌∷◌, Some, None, Ok, Err, Option, Result, sym, refl, ap, ◌∙◌, inl, inr, ⊎_elim, arith}
use Rattle.std.proofs.lemmas.Bool.{lt-ltb, le-ltb, ltb-false, eqb-false, eq-eqb, ne_eqb, and_cases, and_left, and_right}
use Rattle.refusal.specs.Told.{Told, plain, at_node, at_place}
use Rattle.book.specs.Model.{Model, node_count, place_count}
use Rattle.book_check.specs.Below.{or_else, first_of, first_below}
use Rattle.book_check.specs.Targets.{root_of}
use Rattle.book.specs.Totals.{total_places}
use Rattle.book_check.specs.Names.{named_before, picks_named}
use Rattle.book_check.specs.Sound.{when, unless, sound_target}
use Rattle.book_check.specs.Checked.{crowded, barren, twice, place_fault, node_fault, unnamed, tree_fault, checked}
use Rattle.book_check.specs.declared.target.Target.{Target}
use Rattle.book_check.proofs.Belows.{else_parts, first_none, first_at}

-- a test gives no fault exactly if it fails
pub when_none : (b : Bool) (f : Told) → when b f ≡ None → b ≡ false
when_none true f h = absurd cc
when_none false f h = refl

pub none_when : (b : Bool) (f : Told) → b ≡ false → when b f ≡ None
none_when b f h = ap (λ x. when x f) h

-- ---- a place

pub place_none : (m : Model) (n i : ℕ) (t : Target) → sound_target m n i ≡ Ok t → named_before m n i t ≡ false → place_fault m n i ≡ None
unfolding place_fault
place_none m n i t s h = ap (twice m n i) s ∙ none_when (named_before m n i t) (at_place 18 n i) h

pub place_unsound : (m : Model) (n i : ℕ) (f : Told) → sound_target m n i ≡ Err f → place_fault m n i ≡ Some f
unfolding place_fault
place_unsound m n i f s = ap (twice m n i) s

pub place_twice : (m : Model) (n i : ℕ) (t : Target) → sound_target m n i ≡ Ok t → named_before m n i t ≡ true → place_fault m n i ≡ Some (at_place 18 n i)
unfolding place_fault
place_twice m n i t s h = ap (twice m n i) s ∙ ap (λ x. when x (at_place 18 n i)) h

twice_parts : (m : Model) (n i : ℕ) (r : Result Target Told) → sound_target m n i ≡ r → twice m n i r ≡ None → (t : Target) × (sound_target m n i ≡ Ok t) × (named_before m n i t ≡ false)
twice_parts m n i (Err f) e h = absurd cc
twice_parts m n i (Ok t) e h = (t, e, when_none (named_before m n i t) (at_place 18 n i) h)

pub place_parts : (m : Model) (n i : ℕ) → place_fault m n i ≡ None → (t : Target) × (sound_target m n i ≡ Ok t) × (named_before m n i t ≡ false)
unfolding place_fault
place_parts m n i h = twice_parts m n i (sound_target m n i) refl h

-- ---- a node

-- the node is the root, or it has a place
abbrev pub Fertile : Model → ℕ → Type 0
Fertile m n = (root_of m ≤ n) ⊎ (0 < place_count m n)

pub fertile_none : (m : Model) (n : ℕ) → Fertile m n → barren m n ≡ None
fertile_none m n (inl h) = none_when _ (at_node 13 n) (and_left (ltb n (root_of m)) (eqb (place_count m n) 0) (le-ltb n (root_of m) h))
fertile_none m n (inr h) =
    none_when _ (at_node 13 n) (and_right (ltb n (root_of m)) (eqb (place_count m n) 0) (ne_eqb (place_count m n) 0 (λ e. omega arith)))

none_fertile : (m : Model) (n : ℕ) → barren m n ≡ None → Fertile m n
none_fertile m n h =
    ⊎_elim (λ e. inl (ltb-false n (root_of m) e)) (λ e. inr (omega (arith, eqb-false (place_count m n) 0 e)))
    (and_cases (ltb n (root_of m)) (eqb (place_count m n) 0) (when_none _ (at_node 13 n) h))

pub node_none : (m : Model) (n : ℕ) → Fertile m n → first_below (place_fault m n) (place_count m n) ≡ None → node_fault m n ≡ None
unfolding node_fault
node_none m n f h = λ j. first_of (fertile_none m n f j ∷ h j ∷ [])

pub node_barren : (m : Model) (n : ℕ) → n < root_of m → place_count m n ≡ 0 → node_fault m n ≡ Some (at_node 13 n)
unfolding node_fault
node_barren m n l e =
    λ j. first_of (when (lt-ltb n (root_of m) l j && eq-eqb (place_count m n) 0 e j) (at_node 13 n) ∷ first_below (place_fault m n) (place_count m n) ∷ [])

pub node_faulty : (m : Model) (n i : ℕ) (f : Told) → Fertile m n → first_below (place_fault m n) i ≡ None → i < place_count m n → place_fault m n i ≡ Some f → node_fault m n ≡ Some f
unfolding node_fault
node_faulty m n i f p h l e = λ j. first_of (fertile_none m n p j ∷ first_at (place_fault m n) (place_count m n) i f h e l j ∷ [])

pub node_parts : (m : Model) (n : ℕ) → node_fault m n ≡ None → Fertile m n × ((i : ℕ) → i < place_count m n → place_fault m n i ≡ None)
unfolding node_fault
node_parts m n h =
    let p = else_parts (barren m n) (or_else (first_below (place_fault m n) (place_count m n)) None) h in
    let q = else_parts (first_below (place_fault m n) (place_count m n)) None p.1 in
    (none_fertile m n p.0, λ i l. first_none (place_fault m n) (place_count m n) i q.0 l)

-- ---- the book

crowded_none : (m : Model) → total_places m ≤ 2048 → crowded m ≡ None
crowded_none m h = none_when _ (plain 12) (le-ltb 2048 (total_places m) h)

pub tree_crowded : (m : Model) → 2048 < total_places m → tree_fault m ≡ Some (plain 12)
unfolding tree_fault
tree_crowded m h = λ j. first_of (when (lt-ltb 2048 (total_places m) h j) (plain 12) ∷ first_below (node_fault m) (node_count m) ∷ first_below (unnamed m) (root_of m) ∷ [])

pub tree_faulty : (m : Model) (n : ℕ) (f : Told) → total_places m ≤ 2048 → first_below (node_fault m) n ≡ None → n < node_count m → node_fault m n ≡ Some f → tree_fault m ≡ Some f
unfolding tree_fault
tree_faulty m n f h b l e = λ j. first_of (crowded_none m h j ∷ first_at (node_fault m) (node_count m) n f b e l j ∷ first_below (unnamed m) (root_of m) ∷ [])

or_none : (x : Option Told) → or_else x None ≡ x
or_none (Some f) = refl
or_none None = refl

pub tree_unnamed : (m : Model) → total_places m ≤ 2048 → first_below (node_fault m) (node_count m) ≡ None → tree_fault m ≡ first_below (unnamed m) (root_of m)
unfolding tree_fault
tree_unnamed m h b = (λ j. first_of (crowded_none m h j ∷ b j ∷ first_below (unnamed m) (root_of m) ∷ [])) ∙ or_none (first_below (unnamed m) (root_of m))

pub tree_parts : (m : Model) → tree_fault m ≡ None → (total_places m ≤ 2048) × (first_below (node_fault m) (node_count m) ≡ None) × (first_below (unnamed m) (root_of m) ≡ None)
unfolding tree_fault
tree_parts m h =
    let p = else_parts (crowded m) (or_else (first_below (node_fault m) (node_count m)) (or_else (first_below (unnamed m) (root_of m)) None)) h in
    let q = else_parts (first_below (node_fault m) (node_count m)) (or_else (first_below (unnamed m) (root_of m)) None) p.1 in
    let r = else_parts (first_below (unnamed m) (root_of m)) None q.1 in
    (ltb-false 2048 (total_places m) (when_none _ (plain 12) p.0), q.0, r.0)

-- ---- the answer

pub refused : (m : Model) (f : Told) → tree_fault m ≡ Some f → Err f ≡ checked m
unfolding checked
refused m f h = sym (ap (λ x. unless x (picks_named m)) h)

pub accepted : (m : Model) (k : ℕ) → tree_fault m ≡ None → k ≡ picks_named m → Ok k ≡ checked m
unfolding checked
accepted m k h e = ap Ok e ∙ sym (ap (λ x. unless x (picks_named m)) h)

-- what a scan that gives nothing but a fault has told
pub fault_parts : (x : Option Told) (f : Told) → ◌≡◌ {A = Result ⊤ Told} (Err f) (unless x tt) → x ≡ Some f
fault_parts (Some e) f h = cc
fault_parts None f h = absurd cc

pub none_parts : (x : Option Told) → ◌≡◌ {A = Result ⊤ Told} (Ok tt) (unless x tt) → x ≡ None
none_parts (Some e) h = absurd cc
none_parts None h = refl

unless_parts : (x : Option Told) (k l : ℕ) → unless x l ≡ Ok k → (x ≡ None) × (k ≡ l)
unless_parts (Some f) k l h = absurd cc
unless_parts None k l h = (refl, cc)

pub accepted_parts : (m : Model) (k : ℕ) → checked m ≡ Ok k → (tree_fault m ≡ None) × (k ≡ picks_named m)
unfolding checked
accepted_parts m k h = unless_parts (tree_fault m) k (picks_named m) h
