-- A book has no fault exactly if it is accepted in the sense of `Accepted`.
use Rattle.std.proofs.Common.{◌≡◌, ℕ, ◌+◌, ◌<◌, true, false, not, ◌⊎◌, None, Ok, Err, Result, sym, refl, ap, ◌∙◌, subst, inl, inr, ⊎_elim, arith}
use Rattle.std.proofs.lemmas.Bool.{both_ways, not-false, not_from_true, ltb-true, lt-ltb, eqb-true, eq-eqb, cases_Bool, cases_lt, cases_order}
use Rattle.refusal.specs.Told.{at_node, answered, tree_told}
use Rattle.refusal.specs.declared.hands.TreeFault.{TreeFault}
use Rattle.geometry.specs.Contains.{contains}
use Rattle.geometry.specs.Within.{Within}
use Rattle.geometry.specs.declared.bounds.Bounds.{Bounds}
use Rattle.geometry.proofs.Containing.{contains_within}
use Rattle.book.specs.Model.{Model, node_count, pick_limit, level_of, place_count, place_of}
use Rattle.book.specs.declared.place.Entry.{Entry}
use Rattle.book_check.specs.Targets.{target_of, root_of, in_book, one_lower}
use Rattle.book_check.specs.Names.{named_before, is_named, picks_named}
use Rattle.book_check.specs.Sound.{outside, sticks_out, leaves_box}
use Rattle.book_check.specs.Checked.{place_fault, node_fault, unnamed, tree_fault, checked}
use Rattle.book_check.specs.Accepted.{Stands, Names, InBook, Parent, Accepted, Exactly}
use Rattle.book_check.specs.declared.target.Target.{Target}
use Rattle.book_check.specs.declared.target.Target.TheVariants.{Pick, Child}
use Rattle.book_check.proofs.Belows.{some_no, some_none, first_none, first_no}
use Rattle.book_check.proofs.Sounds.{Sound, sound_parts, sound_from}
use Rattle.book_check.proofs.Naming.{Before, place_there, node_there, before_found, before_at, named_found, named_at}
use Rattle.book_check.proofs.Faults.{Fertile, when_none, none_when, place_none, place_parts, node_none, node_parts, tree_parts, tree_unnamed, accepted, accepted_parts}

-- ---- the tests and what they say

in_book_says : (m : Model) (t : Target) → in_book m t ≡ true → InBook m t
in_book_says m (Pick p) h = ltb-true p (pick_limit m) h
in_book_says m (Child k) h = ltb-true k (root_of m) h

says_in_book : (m : Model) (t : Target) → InBook m t → in_book m t ≡ true
says_in_book m (Pick p) h = lt-ltb p (pick_limit m) h
says_in_book m (Child k) h = lt-ltb k (root_of m) h

-- the entries of node k lie within the box
abbrev pub Holds : Model → Bounds → ℕ → Type 0
Holds m b k = (j : ℕ) (e : Entry) → Stands m k j e → Within e.bounds b

holds_says : (m : Model) (b : Bounds) (k : ℕ) → sticks_out m b k ≡ false → Holds m b k
unfolding sticks_out
holds_says m b k h j e s =
    let o = some_none (λ i. outside b (place_of m k i)) (place_count m k) j h (place_there m k j e s) in
    (contains_within b e.bounds).0 (not-false (contains b e.bounds) (ap (outside b) (sym s) ∙ o))

says_holds : (m : Model) (b : Bounds) (k : ℕ) → ((j : ℕ) → j < place_count m k → (e : Entry) × Stands m k j e) → Holds m b k → sticks_out m b k ≡ false
unfolding sticks_out
says_holds m b k filled h =
    some_no (λ i. outside b (place_of m k i)) (place_count m k)
    (λ j l. let r = filled j l in ap (outside b) r.1 ∙ not_from_true (contains b r.0.bounds) ((contains_within b r.0.bounds).1 (h j r.0 r.1)))

same_entry : (m : Model) (n i : ℕ) (e f : Entry) → Stands m n i e → Stands m n i f → e ≡ f
same_entry m n i e f p q = cc

-- ---- places in order

abbrev Same : ℕ → ℕ → ℕ → ℕ → Type 0
Same n i k j = (n ≡ k) × (i ≡ j)

in_node : (n i k j : ℕ) → n ≡ k → (i ≡ j) ⊎ ((i < j) ⊎ (j < i)) → Same n i k j ⊎ (Before n i k j ⊎ Before k j n i)
in_node n i k j e (inl q) = inl (e, q)
in_node n i k j e (inr (inl l)) = inr (inl (inr (e, l)))
in_node n i k j e (inr (inr l)) = inr (inr (inr (sym e, l)))

by_node : (n i k j : ℕ) → (n ≡ k) ⊎ ((n < k) ⊎ (k < n)) → Same n i k j ⊎ (Before n i k j ⊎ Before k j n i)
by_node n i k j (inl e) = in_node n i k j e (cases_order i j)
by_node n i k j (inr (inl l)) = inr (inl (inl l))
by_node n i k j (inr (inr l)) = inr (inr (inl l))

before_self : (n i k j : ℕ) → Before n i k j → Same n i k j → ⊥
before_self n i k j (inl l) (e, q) = omega arith
before_self n i k j (inr (p, l)) (e, q) = omega arith

-- ---- a book without a fault is accepted

module _ (m : Model) (none : tree_fault m ≡ None) where
  nodes_none : (n : ℕ) → n < node_count m → Fertile m n × ((i : ℕ) → i < place_count m n → place_fault m n i ≡ None)
  nodes_none n l = node_parts m n (first_none (node_fault m) (node_count m) n (tree_parts m none).1 l)

  -- every place is sound, and its target was not named before
  place_sound : (n i : ℕ) → i < place_count m n → (t : Target) × Sound m n i t × (named_before m n i t ≡ false)
  place_sound n i l =
      let r = place_parts m n i ((nodes_none n (node_there m n i l)).1 i l) in
      (r.0, sound_parts m n i r.0 r.1, r.2)

  names_sound : (n i : ℕ) (t : Target) → (h : Names m n i t) → (Sound m n i t × (named_before m n i t ≡ false))
  names_sound n i t h =
      let r = place_sound n i (place_there m n i h.0 h.1) in
      let e : r.0 ≡ t = sym r.1.target ∙ ap (target_of m n) (same_entry m n i r.1.entry h.0 r.1.stands h.1) ∙ h.2 in
      (subst (Sound m n i) e r.1, ap (named_before m n i) (sym e) ∙ r.2)

  not_before : (n i k j : ℕ) (t : Target) → Names m n i t → Names m k j t → Before n i k j → ⊥
  not_before n i k j t p q b = both_ways (named_before m k j t) (names_sound k j t q).1 (before_at m k j n i t b p)

  only_one : (t : Target) (n i k j : ℕ) → Names m n i t → Names m k j t → Same n i k j
  only_one t n i k j p q =
      ⊎_elim (λ e. e)
      (λ o. ⊎_elim (λ b. absurd (not_before n i k j t p q b)) (λ b. absurd (not_before k j n i t q p b)) o)
      (by_node n i k j (cases_order n k))

  has_parent : (k : ℕ) → k < root_of m → Parent m k
  has_parent k l =
      let u = first_none (unnamed m) (root_of m) k (tree_parts m none).2 l in
      let r = named_found m (Child k) (not-false (is_named m (Child k)) (when_none (not (is_named m (Child k))) (at_node 19 k) u)) in
      let s = (names_sound r.node r.place (Child k) r.names).0 in
      record {
        node = r.node;
        place = r.place;
        entry = s.entry;
        stands = s.stands;
        names = s.target;
        only = λ n i h. only_one (Child k) n i r.node r.place h r.names;
        higher = eqb-true (level_of m k + 1) (level_of m r.node) s.low;
        contains = holds_says m s.entry.bounds k s.holds;
      }

  pub no_fault : Accepted m
  no_fault =
      record {
        few = (tree_parts m none).0;
        filled = λ n i l.
            let s = (place_sound n i l).1 in
            (s.entry, s.stands, in_book_says m (target_of m n s.entry) (ap (in_book m) s.target ∙ s.here));
        peopled = λ n l. ⊎_elim (λ r. absurd (omega arith)) (λ r. r) (nodes_none n (omega arith)).0;
        parent = has_parent;
        once = λ p n i k j. only_one (Pick p) n i k j;
      }

-- ---- an accepted book has no fault

module _ (m : Model) (acc : Accepted m) where
  entry_at : (n i : ℕ) → i < place_count m n → (e : Entry) × Stands m n i e
  entry_at n i l = let r = acc.filled n i l in (r.0, r.1)

  pub names_in : (n i : ℕ) (t : Target) → Names m n i t → InBook m t
  names_in n i t h =
      let r = acc.filled n i (place_there m n i h.0 h.1) in
      subst (InBook m) (ap (target_of m n) (same_entry m n i r.0 h.0 r.1 h.1) ∙ h.2) r.2

  pub one_place : (t : Target) (n i k j : ℕ) → Names m n i t → Names m k j t → Same n i k j
  one_place (Pick p) n i k j a b = acc.once p n i k j a b
  one_place (Child c) n i k j a b =
      let r = acc.parent c (names_in n i (Child c) a) in
      let x = r.only n i a in
      let y = r.only k j b in
      (x.0 ∙ sym y.0, x.1 ∙ sym y.1)

  -- a child, seen from any place that names it
  pub child_at : (n i k : ℕ) (e : Entry) → Stands m n i e → target_of m n e ≡ Child k → (k < root_of m) × (level_of m k + 1 ≡ level_of m n) × Holds m e.bounds k
  child_at n i k e s q =
      let l = names_in n i (Child k) (e, s, q) in
      let r = acc.parent k l in
      let x = r.only n i (e, s, q) in
      let f : r.entry ≡ e = same_entry m n i r.entry e ((λ j. place_of m (x.0 j) (x.1 j)) ∙ r.stands) s in
      (l, r.higher ∙ ap (level_of m) (sym x.0), subst (λ b. Holds m b k) (ap (λ y. y.bounds) f) r.contains)

  is_low : (n i : ℕ) (e : Entry) (t : Target) → Stands m n i e → target_of m n e ≡ t → one_lower m (level_of m n) t ≡ true
  is_low n i e (Pick p) s q = refl
  is_low n i e (Child k) s q = eq-eqb (level_of m k + 1) (level_of m n) (child_at n i k e s q).1

  is_held : (n i : ℕ) (e : Entry) (t : Target) → Stands m n i e → target_of m n e ≡ t → leaves_box m e.bounds t ≡ false
  is_held n i e (Pick p) s q = refl
  is_held n i e (Child k) s q = says_holds m e.bounds k (entry_at k) (child_at n i k e s q).2

  is_new : (n i : ℕ) (t : Target) → Names m n i t → named_before m n i t ≡ false
  is_new n i t h =
      ⊎_elim
      (λ b. let r = before_found m n i t b in absurd (before_self r.node r.place n i r.where_is (one_place t r.node r.place n i r.names h)))
      (λ b. b) (cases_Bool (named_before m n i t))

  no_place_fault : (n i : ℕ) → i < place_count m n → place_fault m n i ≡ None
  no_place_fault n i l =
      let r = acc.filled n i l in
      let t = target_of m n r.0 in
      place_none m n i t
      (sound_from m n i t
      (record { entry = r.0; stands = r.1; target = refl; here = says_in_book m t r.2; low = is_low n i r.0 t r.1 refl; holds = is_held n i r.0 t r.1 refl }))
      (is_new n i t (r.0, r.1, refl))

  fertile : (n : ℕ) → Fertile m n
  fertile n = ⊎_elim (λ l. inr (acc.peopled n l)) (λ l. inl l) (cases_lt n (root_of m))

  all_named : (k : ℕ) → k < root_of m → unnamed m k ≡ None
  all_named k l =
      let r = acc.parent k l in
      none_when (not (is_named m (Child k))) (at_node 19 k)
      (not_from_true (is_named m (Child k)) (named_at m r.node r.place (Child k) (r.entry, r.stands, r.names)))

  pub no_tree_fault : tree_fault m ≡ None
  no_tree_fault =
      tree_unnamed m acc.few
      (first_no (node_fault m) (node_count m) (λ n l. node_none m n (fertile n) (first_no (place_fault m n) (place_count m n) (no_place_fault n))))
      ∙ first_no (unnamed m) (root_of m) all_named

-- ---- the theorem

pub accepted_exactly : (m : Model) (k : ℕ) → Exactly (checked m ≡ Ok k) (Accepted m × (k ≡ picks_named m))
accepted_exactly m k = (
  λ h. let r = accepted_parts m k h in (no_fault m r.0, r.1),
  λ h. sym (accepted m k (no_tree_fault m h.0) h.1),
)

-- the same of the call's own answer
answered_ok : (r : Result ℕ TreeFault) (k : ℕ) → answered tree_told r ≡ Ok k → r ≡ Ok k
answered_ok (Ok a) k h = cc
answered_ok (Err e) k h = absurd cc

pub answer_exactly : (m : Model) (r : Result ℕ TreeFault) → answered tree_told r ≡ checked m → (k : ℕ) → Exactly (r ≡ Ok k) (Accepted m × (k ≡ picks_named m))
answer_exactly m r e k =
    let x = accepted_exactly m k in
    (λ h. x.0 (sym e ∙ ap (answered tree_told) h), λ h. answered_ok r k (e ∙ x.1 h))
