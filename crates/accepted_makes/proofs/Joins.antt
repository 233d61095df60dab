-- Two accepted books, joined, are accepted.
use Rattle.std.proofs.Common.{◌≡◌, ℕ, zero, suc, ◌+◌, ◌-◌, ◌<◌, ◌≤◌, cond, eqb, ltb, ◌⊎◌, [], ◌∷◌, length, get_or, Some, Ok, Result, sym, refl, ap, ◌∙◌, subst, inl, inr, ⊎_elim, arith, None}
use Rattle.refusal.specs.declared.hands.TreeFault.{TreeFault}
use Rattle.std.proofs.lemmas.Bool.{cond-true, cond-false, lt-ltb, le-ltb, eq-eqb, ne_eqb, cases_lt}
use Rattle.book.specs.Model.{Model, BookShape, Node, node_of, node_count, pick_limit, level_of, place_count}
use Rattle.book.specs.declared.place.Entry.{Entry}
use Rattle.geometry.specs.declared.bounds.Bounds.{Bounds}
use Rattle.book_check.specs.Targets.{target_of, root_of}
use Rattle.book.specs.Totals.{total_places}
use Rattle.book_check.specs.Accepted.{Stands, Names, InBook, Accepted, Exactly}
use Rattle.book_check.specs.Names.{picks_named}
use Rattle.book_check.specs.declared.target.Target.{Target}
use Rattle.book_check.specs.declared.target.Target.TheVariants.{Pick, Child}
use Rattle.book_check.proofs.Meaning.{names_in}
use Rattle.book_check.proofs.Naming.{place_there, node_there}
use Rattle.book_check.proofs.Trees.{names_child}
use Rattle.makes.specs.Join.{sizes_of, nothing, root_node, root_box, both_books}
use Rattle.makes.specs.Places.{place_for}
use Rattle.std.proofs.lemmas.Option.{none-some}
use Rattle.accepted_makes.specs.Joins.{JoinsAccepted, NeverRefused}
use Rattle.accepted_makes.proofs.Enough.{Below, NamedChild, accepted_by, same_entry}
use Rattle.accepted_makes.proofs.Roots.{Joinable, joinable_says, joined_both, both_count, both_picks, left_node, right_node, root_node_is, past_node, by_node, both_total}
use Rattle.accepted_makes.proofs.Copies.{behind, level_copied, names_copied, names_back, filled_copied, below_copied, only_copied, box_copied, holds_copied, peopled_copied}

pub child_number : (a b : ℕ) → Child a ≡ Child b → a ≡ b
child_number a b h = cc

module _ (l r : Model) (some-l : 0 < node_count l) (some-r : 0 < node_count r) (al : Accepted l) (ar : Accepted r) (fit : Joinable l r) where
  abbrev m : Model
  m = both_books l r

  abbrev nl : ℕ
  nl = node_count l

  abbrev nr : ℕ
  nr = node_count r

  left_box : (b : Bounds) × (root_box l ≡ Some b)
  left_box = box_copied m l nothing al (left_node l r) some-l fit.left_some

  right_box : (b : Bounds) × (root_box r ≡ Some b)
  right_box = box_copied m r (sizes_of l) ar (right_node l r) some-r fit.right_some

  -- ---- the new root

  abbrev first : Entry
  first = record { bounds = left_box.0; target = nl - 1 }

  abbrev second : Entry
  second = record { bounds = right_box.0; target = nl + nr - 1 }

  abbrev newest : Node
  newest = record { level = (root_node l).level + 1; places = Some first ∷ Some second ∷ [] }

  root_is : node_of m (nl + nr) ≡ newest
  root_is =
      root_node_is l r
      ∙ (λ i. record { level = (root_node l).level + 1; places = place_for (nl - 1) (left_box.1 i) ∷ place_for (nl + nr - 1) (right_box.1 i) ∷ [] })

  root_level : level_of m (nl + nr) ≡ (root_node l).level + 1
  root_level = ap (λ (x : Node). x.level) root_is

  root_count : place_count m (nl + nr) ≡ 2
  root_count = ap (λ (x : Node). length x.places) root_is

  root_target : (e : Entry) → target_of m (nl + nr) e ≡ Child e.target
  root_target e = names_child m (nl + nr) e (omega (arith, root_level))

  root_first : Stands m (nl + nr) 0 first
  root_first = ap (λ (x : Node). get_or x.places 0 None) root_is

  root_second : Stands m (nl + nr) 1 second
  root_second = ap (λ (x : Node). get_or x.places 1 None) root_is

  root_back : (i : ℕ) (f : Entry) → Stands m (nl + nr) i f → ((i ≡ 0) × (first ≡ f)) ⊎ ((i ≡ 1) × (second ≡ f))
  root_back zero f s = inl (refl, same_entry m (nl + nr) 0 first f root_first s)
  root_back (suc zero) f s = inr (refl, same_entry m (nl + nr) 1 second f root_second s)
  root_back (suc (suc i)) f s = absurd (none-some f (sym (ap (λ (x : Node). get_or x.places (suc (suc i)) None) root_is) ∙ s))

  past_none : {P : Type 0} (n i : ℕ) (e : Entry) → nl + nr < n → Stands m n i e → P
  past_none n i e h s = absurd (none-some e (sym (ap (λ (x : Node). get_or x.places i None) (past_node l r n h)) ∙ s))

  -- ---- every place holds an entry that names what is there

  in_left : (t : Target) → InBook l t → InBook m (behind nothing t)
  in_left (Pick p) h = omega (arith, both_picks l r)
  in_left (Child k) h = omega (arith, both_count l r)

  in_right : (t : Target) → InBook r t → InBook m (behind (sizes_of l) t)
  in_right (Pick p) h = omega (arith, both_picks l r)
  in_right (Child k) h = omega (arith, both_count l r)

  abbrev FilledAt : ℕ → ℕ → Type 0
  FilledAt n i = (e : Entry) × Stands m n i e × InBook m (target_of m n e)

  filled_root : (i : ℕ) → i < place_count m (nl + nr) → FilledAt (nl + nr) i
  filled_root zero h = (first, root_first, subst (InBook m) (sym (root_target first)) (omega (arith, both_count l r)))
  filled_root (suc zero) h = (second, root_second, subst (InBook m) (sym (root_target second)) (omega (arith, both_count l r)))
  filled_root (suc (suc i)) h = absurd (omega (arith, root_count))

  filled_both : (n i : ℕ) → i < place_count m n → FilledAt n i
  filled_both =
      by_node l r (λ n. (i : ℕ) → i < place_count m n → FilledAt n i)
      (λ n h i q.
      let x = filled_copied m l nothing al (left_node l r) n i h q in
      (x.0, x.2, subst (InBook m) (sym x.3) (in_left x.1 x.4)))
      (λ n h i q.
      let x = filled_copied m r (sizes_of l) ar (right_node l r) n i h q in
      (x.0, x.2, subst (InBook m) (sym x.3) (in_right x.1 x.4)))
      filled_root
      (λ n h i q. absurd (omega (arith, ap (λ (x : Node). length x.places) (past_node l r n h))))

  peopled_both : (n : ℕ) → n < root_of m → 0 < place_count m n
  peopled_both =
      by_node l r (λ n. n < root_of m → 0 < place_count m n)
      (λ n h q. peopled_copied m l nothing al (left_node l r) some-l fit.left_some n h)
      (λ n h q. peopled_copied m r (sizes_of l) ar (right_node l r) some-r fit.right_some n h)
      (λ q. absurd (omega (arith, both_count l r)))
      (λ n h q. absurd (omega (arith, both_count l r)))

  -- ---- what is named lies below

  below_first : Below m (nl + nr) first (0 + (nl - 1))
  below_first = (
    omega (arith, root_level, level_copied m l nothing al (left_node l r) (nl - 1) (omega arith)),
    holds_copied m l nothing al (left_node l r) some-l fit.left_some left_box.0 left_box.1,
  )

  below_second : Below m (nl + nr) second (nl + (nr - 1))
  below_second = (
    omega (arith, root_level, fit.level, level_copied m r (sizes_of l) ar (right_node l r) (nr - 1) (omega arith)),
    holds_copied m r (sizes_of l) ar (right_node l r) some-r fit.right_some right_box.0 right_box.1,
  )

  below_root : (i : ℕ) (e : Entry) (k : ℕ) → Stands m (nl + nr) i e → target_of m (nl + nr) e ≡ Child k → Below m (nl + nr) e k
  below_root i e k s q =
      let number : e.target ≡ k = child_number e.target k (sym (root_target e) ∙ q) in
      ⊎_elim
      (λ (x : (i ≡ 0) × (first ≡ e)).
      let same : 0 + (nl - 1) ≡ k = omega (arith, number, ap (λ (z : Entry). z.target) x.1) in
      subst (λ (z : Entry). Below m (nl + nr) z k) x.1 (subst (Below m (nl + nr) first) same below_first))
      (λ (x : (i ≡ 1) × (second ≡ e)).
      let same : nl + (nr - 1) ≡ k = omega (arith, number, ap (λ (z : Entry). z.target) x.1) in
      subst (λ (z : Entry). Below m (nl + nr) z k) x.1 (subst (Below m (nl + nr) second) same below_second))
      (root_back i e s)

  below_both : (n i : ℕ) (e : Entry) (k : ℕ) → Stands m n i e → target_of m n e ≡ Child k → Below m n e k
  below_both =
      by_node l r (λ n. (i : ℕ) (e : Entry) (k : ℕ) → Stands m n i e → target_of m n e ≡ Child k → Below m n e k)
      (λ n h i e k s q. below_copied m l nothing al (left_node l r) n i e k h s q)
      (λ n h i e k s q. below_copied m r (sizes_of l) ar (right_node l r) n i e k h s q)
      below_root
      (λ n h i e k s q. past_none n i e h s)

  -- ---- every node but the root is named

  named_both : (k : ℕ) → k < root_of m → NamedChild m k
  named_both =
      by_node l r (λ k. k < root_of m → NamedChild m k)
      (λ k h q.
      ⊎_elim
      (λ (x : k < nl - 1).
      let p = al.parent k x in
      let there = node_there l p.node p.place (place_there l p.node p.place p.entry p.stands) in
      (0 + p.node, p.place, names_copied m l nothing al (left_node l r) p.node p.place (Child k) there (p.entry, p.stands, p.names)))
      (λ (x : nl - 1 ≤ k). let same : nl - 1 ≡ 0 + k = omega arith in (nl + nr, 0, (first, root_first, root_target first ∙ ap Child same)))
      (cases_lt k (nl - 1)))
      (λ k h q.
      ⊎_elim
      (λ (x : k < nr - 1).
      let p = ar.parent k x in
      let there = node_there r p.node p.place (place_there r p.node p.place p.entry p.stands) in
      (nl + p.node, p.place, names_copied m r (sizes_of l) ar (right_node l r) p.node p.place (Child k) there (p.entry, p.stands, p.names)))
      (λ (x : nr - 1 ≤ k). let same : nl + nr - 1 ≡ nl + k = omega arith in (nl + nr, 1, (second, root_second, root_target second ∙ ap Child same)))
      (cases_lt k (nr - 1)))
      (λ q. absurd (omega (arith, both_count l r)))
      (λ k h q. absurd (omega (arith, both_count l r)))

  -- ---- and by one place: its number says in which part that stands

  -- 0 in the left book, 1 in the right, 2 and 3 in the new root's places
  abbrev part : Target → ℕ
  part (Pick p) = cond (ltb p (pick_limit l)) 0 1
  part (Child k) = cond (ltb k (nl - 1)) 0 (cond (eqb k (nl - 1)) 2 (cond (eqb k (nl + nr - 1)) 3 1))

  part_left : (t : Target) → InBook l t → part (behind nothing t) ≡ 0
  part_left (Pick p) h = cond-true (ltb (0 + p) (pick_limit l)) 0 1 (lt-ltb (0 + p) (pick_limit l) (omega arith))
  part_left (Child k) h = cond-true (ltb (0 + k) (nl - 1)) 0 _ (lt-ltb (0 + k) (nl - 1) (omega arith))

  part_right : (t : Target) → InBook r t → part (behind (sizes_of l) t) ≡ 1
  part_right (Pick p) h = cond-false (ltb (pick_limit l + p) (pick_limit l)) 0 1 (le-ltb (pick_limit l + p) (pick_limit l) (omega arith))
  part_right (Child k) h =
      cond-false (ltb (nl + k) (nl - 1)) 0 _ (le-ltb (nl + k) (nl - 1) (omega arith))
      ∙ cond-false (eqb (nl + k) (nl - 1)) 2 _ (ne_eqb (nl + k) (nl - 1) (λ e. omega arith))
      ∙ cond-false (eqb (nl + k) (nl + nr - 1)) 3 1 (ne_eqb (nl + k) (nl + nr - 1) (λ e. omega arith))

  part_first : part (Child (nl - 1)) ≡ 2
  part_first =
      cond-false (ltb (nl - 1) (nl - 1)) 0 _ (le-ltb (nl - 1) (nl - 1) (omega arith))
      ∙ cond-true (eqb (nl - 1) (nl - 1)) 2 _ (eq-eqb (nl - 1) (nl - 1) refl)

  part_second : part (Child (nl + nr - 1)) ≡ 3
  part_second =
      cond-false (ltb (nl + nr - 1) (nl - 1)) 0 _ (le-ltb (nl + nr - 1) (nl - 1) (omega arith))
      ∙ cond-false (eqb (nl + nr - 1) (nl - 1)) 2 _ (ne_eqb (nl + nr - 1) (nl - 1) (λ e. omega arith))
      ∙ cond-true (eqb (nl + nr - 1) (nl + nr - 1)) 3 1 (eq-eqb (nl + nr - 1) (nl + nr - 1) refl)

  from_left : (n i : ℕ) (t : Target) → n < nl → Names m (0 + n) i t → part t ≡ 0
  from_left n i t h x =
      let u = names_back m l nothing al (left_node l r) n i t h x in
      ap part (sym u.2) ∙ part_left u.0 (names_in l al n i u.0 u.1)

  from_right : (n i : ℕ) (t : Target) → n < nr → Names m (nl + n) i t → part t ≡ 1
  from_right n i t h x =
      let u = names_back m r (sizes_of l) ar (right_node l r) n i t h x in
      ap part (sym u.2) ∙ part_right u.0 (names_in r ar n i u.0 u.1)

  from_root : (i : ℕ) (t : Target) → Names m (nl + nr) i t → part t ≡ 2 + i
  from_root i t (e, s, q) =
      let is : Child e.target ≡ t = sym (root_target e) ∙ q in
      ⊎_elim
      (λ (x : (i ≡ 0) × (first ≡ e)). let y = ap (λ (z : Entry). part (Child z.target)) x.1 ∙ ap part is in omega (arith, y, x.0, part_first))
      (λ (x : (i ≡ 1) × (second ≡ e)). let y = ap (λ (z : Entry). part (Child z.target)) x.1 ∙ ap part is in omega (arith, y, x.0, part_second))
      (root_back i e s)

  only_both : (t : Target) (n i k j : ℕ) → Names m n i t → Names m k j t → (n ≡ k) × (i ≡ j)
  only_both t =
      by_node l r (λ n. (i k j : ℕ) → Names m n i t → Names m k j t → (n ≡ k) × (i ≡ j))
      (λ n h i k j x y.
      by_node l r (λ k. Names m k j t → (0 + n ≡ k) × (i ≡ j))
      (λ k g y. only_copied m l nothing al (left_node l r) t n i k j h g x y)
      (λ k g y. absurd (omega (arith, from_left n i t h x, from_right k j t g y)))
      (λ y. absurd (omega (arith, from_left n i t h x, from_root j t y)))
      (λ k g y. past_none k j y.0 g y.1) k y)
      (λ n h i k j x y.
      by_node l r (λ k. Names m k j t → (nl + n ≡ k) × (i ≡ j))
      (λ k g y. absurd (omega (arith, from_right n i t h x, from_left k j t g y)))
      (λ k g y. only_copied m r (sizes_of l) ar (right_node l r) t n i k j h g x y)
      (λ y. absurd (omega (arith, from_right n i t h x, from_root j t y)))
      (λ k g y. past_none k j y.0 g y.1) k y)
      (λ i k j x y.
      by_node l r (λ k. Names m k j t → (nl + nr ≡ k) × (i ≡ j))
      (λ k g y. absurd (omega (arith, from_root i t x, from_left k j t g y)))
      (λ k g y. absurd (omega (arith, from_root i t x, from_right k j t g y)))
      (λ y. (refl, omega (arith, from_root i t x, from_root j t y)))
      (λ k g y. past_none k j y.0 g y.1) k y)
      (λ n h i k j x y. past_none n i x.0 h x.1)

  pub both_accepted : total_places l + total_places r + 2 ≤ 2048 → Accepted m
  both_accepted few =
      accepted_by m (record {
        few = omega (arith, both_total l r, few);
        filled = filled_both;
        peopled = peopled_both;
        below = below_both;
        named = named_both;
        only = only_both;
      })

pub joins_accepted : JoinsAccepted
joins_accepted l r sl sr al ar e few =
    subst Accepted (joined_both l r e) (both_accepted l r sl.some_node sr.some_node al ar (joinable_says l r e) few)

module _ (m l r : Model) (answer : Result ℕ TreeFault) (sl : BookShape l) (sr : BookShape r) (said : (k : ℕ) → Exactly (answer ≡ Ok k) (Accepted m × (k ≡ picks_named m))) where
  pub never_refused : NeverRefused m l r answer
  never_refused is al ar e few = (said (picks_named m)).1 (subst Accepted (sym is) (joins_accepted l r sl sr al ar e few), refl)
