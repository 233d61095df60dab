-- An accepted book is a tree.
use Rattle.std.proofs.Common.{◌≡◌, ℕ, ◌+◌, ◌<◌, ◌≤◌, Bool, true, false, cond, eqb, ◌⊎◌, List, [], ◌∷◌, Ok, sum_by, count_by, Result, sym, refl, ap, ◌∙◌, subst, inl, inr, ⊎_elim, arith, Some, None, Option}
use Rattle.std.specs.List.{flat_map, AllByRecursion as All}
use Rattle.std.proofs.lemmas.Bool.{false≢true, eqb-true, eq-eqb, ne_eqb, cases_eq, cases_lt}
use Rattle.std.proofs.ByRecursion.{All-from_get_or}
use Rattle.std.proofs.lemmas.List.Sums.{sum_by-cons, get_or-le-sum_by}
use Rattle.refusal.specs.Told.{answered, tree_told}
use Rattle.refusal.specs.declared.hands.TreeFault.{TreeFault}
use Rattle.book.specs.Model.{Model, Node, no_node, node_of, node_count, level_of, places_of, place_of}
use Rattle.book.specs.declared.place.Entry.{Entry}
use Rattle.book_check.specs.Targets.{target_of, root_of}
use Rattle.book_check.specs.Accepted.{Stands, Names, Accepted}
use Rattle.book_check.specs.Checked.{checked}
use Rattle.book_check.specs.Tree.{targets_in, children_in, times, Tree}
use Rattle.book_check.specs.declared.target.Target.{Target}
use Rattle.book_check.specs.declared.target.Target.TheVariants.{Pick, Child}
use Rattle.book_check.proofs.Naming.{place_there, node_there}
use Rattle.book_check.proofs.Singles.{sum_found, sum_single, sum_joined, counts, counted, count_one}
use Rattle.book_check.proofs.Meaning.{one_place, child_at, names_in, answer_exactly}

-- ---- what an entry of a node names

pub names_pick : (m : Model) (n : ℕ) (e : Entry) → level_of m n ≡ 0 → target_of m n e ≡ Pick e.target
names_pick m n e h = ap (λ b. cond b (Pick e.target) (Child e.target)) (eq-eqb (level_of m n) 0 h)

pub names_child : (m : Model) (n : ℕ) (e : Entry) → 0 < level_of m n → target_of m n e ≡ Child e.target
names_child m n e h = ap (λ b. cond b (Pick e.target) (Child e.target)) (ne_eqb (level_of m n) 0 (λ q. omega arith))

-- ---- how often a number is named, place by place

-- whether the place holds an entry with the target k
abbrev hits : ℕ → Option Entry → Bool
hits k None = false
hits k (Some e) = eqb e.target k

hit_found : (k : ℕ) (p : Option Entry) → hits k p ≡ true → (e : Entry) × (p ≡ Some e) × (e.target ≡ k)
hit_found k None h = absurd (false≢true h)
hit_found k (Some e) h = (e, refl, eqb-true e.target k h)

times_places : (k : ℕ) (ps : List (Option Entry)) → times k (targets_in ps) ≡ count_by (hits k) ps
times_places k [] = refl
times_places k (None ∷ ps) = times_places k ps ∙ sym (sum_by-cons (λ p. cond (hits k p) 1 0) None ps ∙ omega arith)
times_places k (Some e ∷ ps) =
    sum_by-cons (λ x. cond (eqb x k) 1 0) e.target (targets_in ps)
    ∙ ap (λ s. cond (eqb e.target k) 1 0 + s) (times_places k ps)
    ∙ sym (sum_by-cons (λ p. cond (hits k p) 1 0) (Some e) ps)

-- the numbers that a node names as picks, or as children
abbrev numbers_in : Bool → Node → List ℕ
numbers_in leaf nd = cond (eqb nd.level 0) (cond leaf (targets_in nd.places) []) (cond leaf [] (targets_in nd.places))

abbrev target : Bool → ℕ → Target
target leaf k = cond leaf (Pick k) (Child k)

agree : (a b : Bool) → (a ≡ b) ⊎ (a ≡ b → ⊥)
agree true true = inl refl
agree true false = inr (λ h. false≢true (sym h))
agree false true = inr false≢true
agree false false = inl refl

target_parts : (a b : Bool) (t k : ℕ) → target a t ≡ target b k → (a ≡ b) × (t ≡ k)
target_parts true true t k h = (refl, cc)
target_parts true false t k h = absurd cc
target_parts false true t k h = absurd cc
target_parts false false t k h = (refl, cc)

chosen : (a b : Bool) (xs : List ℕ) → a ≡ b → cond a (cond b xs []) (cond b [] xs) ≡ xs
chosen true true xs h = refl
chosen true false xs h = absurd (false≢true (sym h))
chosen false true xs h = absurd (false≢true h)
chosen false false xs h = refl

not_chosen : (a b : Bool) (xs : List ℕ) → (a ≡ b → ⊥) → cond a (cond b xs []) (cond b [] xs) ≡ []
not_chosen true true xs h = absurd (h refl)
not_chosen true false xs h = refl
not_chosen false true xs h = refl
not_chosen false false xs h = absurd (h refl)

module _ (m : Model) (leaf : Bool) (k : ℕ) where
  abbrev often : ℕ → ℕ
  often n = times k (numbers_in leaf (node_of m n))

  of_class : (n : ℕ) → eqb (level_of m n) 0 ≡ leaf → often n ≡ count_by (hits k) (places_of m n)
  of_class n h = ap (times k) (chosen (eqb (level_of m n) 0) leaf (targets_in (places_of m n)) h) ∙ times_places k (places_of m n)

  not_of_class : (n : ℕ) → (eqb (level_of m n) 0 ≡ leaf → ⊥) → often n ≡ 0
  not_of_class n h = ap (times k) (not_chosen (eqb (level_of m n) 0) leaf (targets_in (places_of m n)) h)

  names_hit : (n i : ℕ) → Names m n i (target leaf k) → (eqb (level_of m n) 0 ≡ leaf) × (hits k (place_of m n i) ≡ true)
  names_hit n i (e, s, q) =
      let r = target_parts (eqb (level_of m n) 0) leaf e.target k q in
      (r.0, ap (hits k) s ∙ eq-eqb e.target k r.1)

  hit_names : (n i : ℕ) → eqb (level_of m n) 0 ≡ leaf → hits k (place_of m n i) ≡ true → Names m n i (target leaf k)
  hit_names n i h q =
      let r = hit_found k (place_of m n i) q in
      (r.0, r.1, λ j. target (h j) (r.2 j))

  node_found : (n : ℕ) → 0 < often n → (i : ℕ) × Names m n i (target leaf k)
  node_found n h =
      ⊎_elim
      (λ a.
      let r = sum_found (λ p. cond (hits k p) 1 0) None (places_of m n) (omega (arith, of_class n a)) in
      (r.0, hit_names n r.0 a (counted (hits k (place_of m n r.0)) r.2)))
      (λ a. absurd (omega (arith, not_of_class n a)))
      (agree (eqb (level_of m n) 0) leaf)

  node_has : (n i : ℕ) → Names m n i (target leaf k) → 0 < often n
  node_has n i h =
      let r = names_hit n i h in
      omega (
        arith,
        of_class n r.0,
        counts (hits k (place_of m n i)) r.1,
        get_or-le-sum_by (λ p. cond (hits k p) 1 0) (places_of m n) i None (place_there m n i h.0 h.1),
      )

  abbrev all_often : ℕ
  all_often = times k (flat_map (numbers_in leaf) m.nodes)

  by_nodes : all_often ≡ sum_by (λ nd. times k (numbers_in leaf nd)) m.nodes
  by_nodes = sum_joined (λ x. cond (eqb x k) 1 0) (numbers_in leaf) m.nodes

  pub some_place : (n i : ℕ) → Names m n i (target leaf k) → 0 < all_often
  some_place n i h =
      omega (
        arith,
        by_nodes,
        node_has n i h,
        get_or-le-sum_by (λ nd. times k (numbers_in leaf nd)) m.nodes n no_node (node_there m n i (place_there m n i h.0 h.1)),
      )

  pub place_found : 0 < all_often → (n : ℕ) × (i : ℕ) × Names m n i (target leaf k)
  place_found h =
      let r = sum_found (λ nd. times k (numbers_in leaf nd)) no_node m.nodes (omega (arith, by_nodes)) in
      let q = node_found r.0 r.2 in
      (r.0, q.0, q.1)

  pub at_most_one : ((n i l j : ℕ) → Names m n i (target leaf k) → Names m l j (target leaf k) → (n ≡ l) × (i ≡ j)) → all_often ≤ 1
  at_most_one only =
      omega (
        arith,
        by_nodes,
        sum_single (λ nd. times k (numbers_in leaf nd)) no_node m.nodes (λ n l. in_node n)
            (λ n l a b p q. let x = node_found n p in let y = node_found l q in (only n x.0 l y.0 x.1 y.1).0),
      )
    where
      in_node : (n : ℕ) → often n ≤ 1
      in_node n =
          ⊎_elim
          (λ a.
          omega (
            arith,
            of_class n a,
            sum_single (λ p. cond (hits k p) 1 0) None (places_of m n) (λ i l. count_one (hits k (place_of m n i)))
                (λ i j _ _ p q. (only n i n j (hit_names n i a (counted (hits k (place_of m n i)) p)) (hit_names n j a (counted (hits k (place_of m n j)) q))).1),
          ))
          (λ a. omega (arith, not_of_class n a))
          (agree (eqb (level_of m n) 0) leaf)

-- ---- the theorem

module _ (m : Model) (acc : Accepted m) where
  root_unnamed : times (root_of m) (flat_map children_in m.nodes) ≡ 0
  root_unnamed =
      ⊎_elim (λ h. let r = place_found m false (root_of m) h in absurd (omega (arith, names_in m acc r.0 r.1 (Child (root_of m)) r.2)))
      (λ h. omega arith) (cases_lt 0 (times (root_of m) (flat_map children_in m.nodes)))

  once_named : (k : ℕ) → k < root_of m → times k (flat_map children_in m.nodes) ≡ 1
  once_named k l =
      let r = acc.parent k l in
      omega (arith, at_most_one m false k (one_place m acc (Child k)), some_place m false k r.node r.place (r.entry, r.stands, r.names))

  named_times : (k : ℕ) → k < node_count m → times k (flat_map children_in m.nodes) ≡ cond (eqb k (root_of m)) 0 1
  named_times k l =
      ⊎_elim
      (λ e. ap (λ x. times x (flat_map children_in m.nodes)) e ∙ root_unnamed ∙ sym (ap (λ b. cond b 0 1) (eq-eqb k (root_of m) e)))
      (λ e. once_named k (omega arith) ∙ sym (ap (λ b. cond b 0 1) (ne_eqb k (root_of m) e)))
      (cases_eq k (root_of m))

  pub accepted_tree : Tree m
  accepted_tree =
      record {
        few = acc.few;
        filled = λ n i l. let r = acc.filled n i l in (r.0, r.1);
        picks_in_book = λ n i e s h. names_in m acc n i (Pick e.target) (e, s, names_pick m n e h);
        children_in_book = λ n i e s h. (child_at m acc n i e.target e s (names_child m n e h)).0;
        lower = λ n i e s h. omega (arith, (child_at m acc n i e.target e s (names_child m n e h)).1);
        inside = λ n i e s h. (child_at m acc n i e.target e s (names_child m n e h)).2;
        named = named_times;
        once = λ p. at_most_one m true p (one_place m acc (Pick p));
      }

  -- where "lower" is not enough
  pub one_lower : (n i : ℕ) (e : Entry) → Stands m n i e → 0 < level_of m n → level_of m e.target + 1 ≡ level_of m n
  one_lower n i e s h = (child_at m acc n i e.target e s (names_child m n e h)).1

-- what holds of every entry holds of every place of a tree
pub all_places_lem : (m : Model) → Tree m → (n : ℕ) (P : Option Entry → Type 0) → ((i : ℕ) (e : Entry) → Stands m n i e → P (Some e)) → All P (places_of m n)
all_places_lem m tree n P h =
    All-from_get_or P (places_of m n) None (λ i l. let r = tree.filled n i l in subst P (sym r.1) (h i r.0 r.1))

pub answer_tree : (m : Model) (r : Result ℕ TreeFault) → answered tree_told r ≡ checked m → (k : ℕ) → r ≡ Ok k → Tree m
answer_tree m r e k h = accepted_tree m ((answer_exactly m r e k).0 h).0
