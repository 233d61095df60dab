-- A tree by sixteens over boxes that are all there is accepted.
use Rattle.std.proofs.Common.{◌≡◌, ℕ, zero, suc, ◌+◌, ◌-◌, ◌*◌, ◌/◌, ◌%◌, ◌<◌, ◌≤◌, Bool, true, cond, ltb, leb, List, length, get_or, Option, sym, refl, ap, ◌∙◌, subst, ⊎_elim, arith, None}
use Rattle.std.proofs.lemmas.List.{get_or_past}
use Rattle.std.proofs.lemmas.Bool.{cond-true, cond-false, cond_both, lt-ltb, le-ltb, le-leb, lt-leb, cases_lt}
use Rattle.book.specs.Model.{Model, Node, no_node, node_of, node_count, pick_limit, place_count}
use Rattle.book.specs.declared.kind.Kind.{Kind}
use Rattle.book.specs.declared.place.Entry.{Entry}
use Rattle.geometry.specs.declared.bounds.Bounds.{Bounds}
use Rattle.book_check.specs.Below.{count_below}
use Rattle.book_check.specs.Names.{is_named, picks_named}
use Rattle.book_check.specs.Targets.{target_of, root_of}
use Rattle.book.specs.Totals.{total_places}
use Rattle.book.proofs.Places.{places_summed}
use Rattle.book_check.specs.Accepted.{Stands, Names, InBook, Accepted}
use Rattle.book_check.specs.declared.target.Target.{Target}
use Rattle.book_check.specs.declared.target.Target.TheVariants.{Pick, Child}
use Rattle.book_check.proofs.Naming.{named_at}
use Rattle.book_check.proofs.Trees.{names_pick, names_child}
use Rattle.makes.specs.Sixteens.{named, group_count, group, node_with, by_sixteens, places_for}
use Rattle.makes.specs.Groups.{above, above_length}
use Rattle.makes.specs.Rows.{leaf_node, middle_node, top_node}
use Rattle.std.proofs.lemmas.Option.{none-some}
use Rattle.makes.specs.Trees.{tree_by}
use Rattle.accepted_makes.specs.Tallies.{Full, SixteensAccepted}
use Rattle.accepted_makes.proofs.Enough.{Below, NamedChild, accepted_by}
use Rattle.accepted_makes.proofs.Joins.{child_number}
use Rattle.accepted_makes.proofs.Rows.{full_above, Sits, row_level, row_count, row_sits, row_filled, row_below}

pick_or_child : {P : Type 0} (a c : ℕ) → Pick a ≡ Child c → P
pick_or_child a c h = cc

count_all : (f : ℕ → Bool) (n : ℕ) → ((k : ℕ) → k < n → f k ≡ true) → count_below f n ≡ n
unfolding count_below
count_all f zero h = refl
count_all f (suc n) h =
    let one : n + 1 ≡ suc n = omega arith in
    ap (λ z. z + cond (f n) 1 0) (count_all f n (λ k l. h k (omega arith)))
    ∙ ap (λ b. n + cond b 1 0) (h n (omega arith))
    ∙ one

module _ (bs : List (Option Bounds)) (ks : List Kind) (some : 0 < length bs) (most : length bs ≤ 1000) (same : length ks ≡ length bs) (full : Full bs) where
  abbrev m : Model
  m = record { nodes = by_sixteens bs; kinds = ks }

  abbrev picks : ℕ
  picks = length bs

  abbrev leaves : ℕ
  leaves = group_count picks

  abbrev middles : ℕ
  middles = group_count leaves

  -- ---- how many there are

  count_small : picks ≤ 16 → node_count m ≡ 1
  count_small h = (tree_by bs some most).nodes ∙ cond-true (leb picks 16) 1 _ (le-leb picks 16 h)

  count_middle : 16 < picks → leaves ≤ 16 → node_count m ≡ leaves + middles
  count_middle h k =
      let one : leaves + 1 ≡ leaves + middles = omega arith in
      (tree_by bs some most).nodes
      ∙ cond-false (leb picks 16) 1 _ (lt-leb picks 16 h)
      ∙ cond-true (leb picks 256) (leaves + 1) _ (le-leb picks 256 (omega arith))
      ∙ one

  count_large : 16 < leaves → node_count m ≡ leaves + middles + 1
  count_large h =
      (tree_by bs some most).nodes
      ∙ cond-false (leb picks 16) 1 _ (lt-leb picks 16 (omega arith))
      ∙ cond-false (leb picks 256) (leaves + 1) _ (lt-leb picks 256 (omega arith))

  total : total_places m ≡ places_for picks
  total = places_summed m.nodes ∙ (tree_by bs some most).places

  few_places : places_for picks ≤ 2048
  few_places =
      let P : ℕ → Type 0 = λ k. k ≤ 2048 in
      cond_both (leb picks 16) picks _ P (λ e. omega arith)
      (λ e. cond_both (leb picks 256) (picks + leaves) _ P (λ f. omega arith) (λ f. omega arith))

  middle_length : length (above bs) ≡ leaves
  middle_length = above_length bs

  top_length : length (above (above bs)) ≡ middles
  top_length = above_length (above bs) ∙ ap group_count (above_length bs)

  full_middle : Full (above bs)
  full_middle = full_above bs full

  full_top : Full (above (above bs))
  full_top = full_above (above bs) full_middle

  leaves_in : 16 < picks → leaves ≤ root_of m
  leaves_in more =
      ⊎_elim (λ (h : 16 < leaves). omega (arith, count_large h)) (λ (h : leaves ≤ 16). omega (arith, count_middle more h)) (cases_lt 16 leaves)

  -- ---- the nodes

  leaf_at : (n : ℕ) → n < leaves → node_of m n ≡ node_with 0 (group (named 0 bs) n)
  leaf_at n h =
      let e : n - 0 ≡ n = omega arith in
      leaf_node bs n h ∙ ap (λ z. node_with 0 (group (named 0 bs) z)) e

  middle_at : 16 < picks → (k : ℕ) → k < middles → node_of m (leaves + k) ≡ node_with 1 (group (named 0 (above bs)) k)
  middle_at more k h =
      let e : leaves + k - leaves ≡ k = omega arith in
      middle_node bs (leaves + k) (omega arith) more (omega arith) ∙ ap (λ z. node_with 1 (group (named 0 (above bs)) z)) e

  top_at : 16 < leaves → node_of m (leaves + middles) ≡ node_with 2 (group (named leaves (above (above bs))) 0)
  top_at many =
      let e : leaves + middles - (leaves + middles) ≡ 0 = omega arith in
      top_node bs (leaves + middles) most (omega arith) (omega arith) many refl
      ∙ ap (λ z. node_with 2 (group (named leaves (above (above bs))) z)) e

  past_none : {P : Type 0} (n i : ℕ) (e : Entry) → node_count m ≤ n → Stands m n i e → P
  past_none n i e h s = absurd (none-some e (sym (ap (λ (x : Node). get_or x.places i None) (get_or_past (by_sixteens bs) n no_node h)) ∙ s))

  -- a leaf, a node above the leaves, the one above those, or nowhere
  by_row : (P : ℕ → Type 0) → ((n : ℕ) → n < leaves → P n) → (16 < picks → (k : ℕ) → k < middles → P (leaves + k)) → (16 < leaves → P (leaves + middles)) → ((n : ℕ) → node_count m ≤ n → P n) → (n : ℕ) → P n
  by_row P leaf middle top past n =
      ⊎_elim (λ (h : n < leaves). leaf n h)
      (λ (h : leaves ≤ n).
      ⊎_elim
      (λ (more : 16 < picks).
      let back : leaves + (n - leaves) ≡ n = omega arith in
      ⊎_elim (λ (k : n < leaves + middles). subst P back (middle more (n - leaves) (omega arith)))
      (λ (k : leaves + middles ≤ n).
      ⊎_elim
      (λ (many : 16 < leaves).
      ⊎_elim (λ (j : leaves + middles < n). past n (omega (arith, count_large many)))
      (λ (j : n ≤ leaves + middles). let e : leaves + middles ≡ n = omega arith in subst P e (top many))
      (cases_lt (leaves + middles) n))
      (λ (few : leaves ≤ 16). past n (omega (arith, count_middle more few)))
      (cases_lt 16 leaves))
      (cases_lt n (leaves + middles)))
      (λ (few : picks ≤ 16). past n (omega (arith, count_small few)))
      (cases_lt 16 picks))
      (cases_lt n leaves)

  -- ---- what their entries name

  leaf_target : (n : ℕ) → n < leaves → (e : Entry) → target_of m n e ≡ Pick e.target
  leaf_target n h e = names_pick m n e (row_level m n 0 0 n bs (leaf_at n h))

  middle_target : (more : 16 < picks) (k : ℕ) → k < middles → (e : Entry) → target_of m (leaves + k) e ≡ Child e.target
  middle_target more k h e = names_child m (leaves + k) e (omega (arith, row_level m (leaves + k) 1 0 k (above bs) (middle_at more k h)))

  top_target : 16 < leaves → (e : Entry) → target_of m (leaves + middles) e ≡ Child e.target
  top_target many e = names_child m (leaves + middles) e (omega (arith, row_level m (leaves + middles) 2 leaves 0 (above (above bs)) (top_at many)))

  leaf_sits : (n : ℕ) → n < leaves → (i : ℕ) (e : Entry) → Stands m n i e → Sits 0 n i bs e
  leaf_sits n h = row_sits m n 0 0 n bs (leaf_at n h)

  middle_sits : 16 < picks → (k : ℕ) → k < middles → (i : ℕ) (e : Entry) → Stands m (leaves + k) i e → Sits 0 k i (above bs) e
  middle_sits more k h = row_sits m (leaves + k) 1 0 k (above bs) (middle_at more k h)

  top_sits : 16 < leaves → (i : ℕ) (e : Entry) → Stands m (leaves + middles) i e → Sits leaves 0 i (above (above bs)) e
  top_sits many = row_sits m (leaves + middles) 2 leaves 0 (above (above bs)) (top_at many)

  abbrev FilledAt : ℕ → ℕ → Type 0
  FilledAt n i = (e : Entry) × Stands m n i e × InBook m (target_of m n e)

  filled_leaf : (n : ℕ) → n < leaves → (i : ℕ) → i < place_count m n → FilledAt n i
  filled_leaf n h i q =
      let c = row_count m n 0 0 n bs (leaf_at n h) in
      let x = row_filled m n 0 0 n bs (leaf_at n h) full i (omega (arith, c)) (omega (arith, c)) in
      let s = leaf_sits n h i x.0 x.1 in
      let l : x.0.target < length ks = omega (arith, s.number, s.inside, same) in
      (x.0, x.1, subst (InBook m) (sym (leaf_target n h x.0)) l)

  filled_middle : 16 < picks → (k : ℕ) → k < middles → (i : ℕ) → i < place_count m (leaves + k) → FilledAt (leaves + k) i
  filled_middle more k h i q =
      let c = row_count m (leaves + k) 1 0 k (above bs) (middle_at more k h) in
      let x = row_filled m (leaves + k) 1 0 k (above bs) (middle_at more k h) full_middle i (omega (arith, c)) (omega (arith, c)) in
      let s = middle_sits more k h i x.0 x.1 in
      let l : x.0.target < root_of m = omega (arith, s.number, s.inside, middle_length, leaves_in more) in
      (x.0, x.1, subst (InBook m) (sym (middle_target more k h x.0)) l)

  filled_top : 16 < leaves → (i : ℕ) → i < place_count m (leaves + middles) → FilledAt (leaves + middles) i
  filled_top many i q =
      let c = row_count m (leaves + middles) 2 leaves 0 (above (above bs)) (top_at many) in
      let x = row_filled m (leaves + middles) 2 leaves 0 (above (above bs)) (top_at many) full_top i (omega (arith, c)) (omega (arith, c)) in
      let s = top_sits many i x.0 x.1 in
      let l : x.0.target < root_of m = omega (arith, s.number, s.inside, top_length, count_large many) in
      (x.0, x.1, subst (InBook m) (sym (top_target many x.0)) l)

  past_count : (n : ℕ) → node_count m ≤ n → place_count m n ≡ 0
  past_count n h = ap (λ (x : Node). length x.places) (get_or_past (by_sixteens bs) n no_node h)

  filled_all : (n i : ℕ) → i < place_count m n → FilledAt n i
  filled_all =
      by_row (λ n. (i : ℕ) → i < place_count m n → FilledAt n i) filled_leaf filled_middle filled_top
      (λ n h i q. absurd (omega (arith, past_count n h)))

  peopled_all : (n : ℕ) → n < root_of m → 0 < place_count m n
  peopled_all =
      by_row (λ n. n < root_of m → 0 < place_count m n)
      (λ n h q. omega (arith, row_count m n 0 0 n bs (leaf_at n h)))
      (λ more k h q. omega (arith, row_count m (leaves + k) 1 0 k (above bs) (middle_at more k h), middle_length))
      (λ many q. absurd (omega (arith, count_large many)))
      (λ n h q. absurd (omega arith))

  below_all : (n i : ℕ) (e : Entry) (c : ℕ) → Stands m n i e → target_of m n e ≡ Child c → Below m n e c
  below_all =
      by_row (λ n. (i : ℕ) (e : Entry) (c : ℕ) → Stands m n i e → target_of m n e ≡ Child c → Below m n e c)
      (λ n h i e c s q. pick_or_child e.target c (sym (leaf_target n h e) ∙ q))
      (λ more k h i e c s q.
      let sits = middle_sits more k h i e s in
      let number : 16 * k + i ≡ c = omega (arith, child_number e.target c (sym (middle_target more k h e) ∙ q), sits.number) in
      subst (Below m (leaves + k) e) number
      (row_below m (leaves + k) (16 * k + i) 0 0 0 k i bs (middle_at more k h) (leaf_at (16 * k + i) (omega (arith, sits.inside, middle_length))) e sits))
      (λ many i e c s q.
      let sits = top_sits many i e s in
      let number : leaves + (16 * 0 + i) ≡ c = omega (arith, child_number e.target c (sym (top_target many e) ∙ q), sits.number) in
      subst (Below m (leaves + middles) e) number
      (row_below m (leaves + middles) (leaves + (16 * 0 + i)) 1 leaves 0 0 i (above bs) (top_at many) (middle_at (omega arith) (16 * 0 + i) (omega (arith, sits.inside, top_length))) e sits))
      (λ n h i e c s q. past_none n i e h s)

  -- ---- every node but the root is named, by one place

  named_middle : 16 < picks → (k : ℕ) → k < leaves → NamedChild m k
  named_middle more k h =
      let a : k / 16 < middles = omega arith in
      let x = row_filled m (leaves + k / 16) 1 0 (k / 16) (above bs) (middle_at more (k / 16) a) full_middle (k % 16) (omega arith) (omega (arith, middle_length)) in
      let number : x.0.target ≡ k = omega (arith, (middle_sits more (k / 16) a (k % 16) x.0 x.1).number) in
      (leaves + k / 16, k % 16, (x.0, x.1, middle_target more (k / 16) a x.0 ∙ ap Child number))

  named_top : 16 < leaves → (k : ℕ) → leaves ≤ k → k < leaves + middles → NamedChild m k
  named_top many k h q =
      let x = row_filled m (leaves + middles) 2 leaves 0 (above (above bs)) (top_at many) full_top (k - leaves) (omega arith) (omega (arith, top_length)) in
      let number : x.0.target ≡ k = omega (arith, (top_sits many (k - leaves) x.0 x.1).number) in
      (leaves + middles, k - leaves, (x.0, x.1, top_target many x.0 ∙ ap Child number))

  named_all : (k : ℕ) → k < root_of m → NamedChild m k
  named_all k q =
      ⊎_elim
      (λ (more : 16 < picks).
      ⊎_elim (λ (h : k < leaves). named_middle more k h)
      (λ (h : leaves ≤ k).
      ⊎_elim (λ (many : 16 < leaves). named_top many k h (omega (arith, count_large many)))
      (λ (few : leaves ≤ 16). absurd (omega (arith, count_middle more few)))
      (cases_lt 16 leaves))
      (cases_lt k leaves))
      (λ (few : picks ≤ 16). absurd (omega (arith, count_small few)))
      (cases_lt 16 picks)

  -- the node that names a target, and its place there
  abbrev home : Target → ℕ
  home (Pick p) = p / 16
  home (Child c) = cond (ltb c leaves) (leaves + c / 16) (leaves + middles)

  abbrev seat : Target → ℕ
  seat (Pick p) = p % 16
  seat (Child c) = cond (ltb c leaves) (c % 16) (c - leaves)

  at_home : (n i : ℕ) (t : Target) → Names m n i t → (home t ≡ n) × (seat t ≡ i)
  at_home =
      by_row (λ n. (i : ℕ) (t : Target) → Names m n i t → (home t ≡ n) × (seat t ≡ i))
      (λ n h i t x.
      let e = x.0 in
      let is : t ≡ Pick e.target = sym x.2 ∙ leaf_target n h e in
      let s = leaf_sits n h i e x.1 in
      let a : e.target / 16 ≡ n = omega (arith, s.number, s.low) in
      let b : e.target % 16 ≡ i = omega (arith, s.number, s.low) in
      (ap home is ∙ a, ap seat is ∙ b))
      (λ more k h i t x.
      let e = x.0 in
      let is : t ≡ Child e.target = sym x.2 ∙ middle_target more k h e in
      let s = middle_sits more k h i e x.1 in
      let low = lt-ltb e.target leaves (omega (arith, s.number, s.inside, middle_length)) in
      let a : leaves + e.target / 16 ≡ leaves + k = omega (arith, s.number, s.low) in
      let b : e.target % 16 ≡ i = omega (arith, s.number, s.low) in (
        ap home is ∙ cond-true (ltb e.target leaves) (leaves + e.target / 16) (leaves + middles) low ∙ a,
        ap seat is ∙ cond-true (ltb e.target leaves) (e.target % 16) (e.target - leaves) low ∙ b,
      ))
      (λ many i t x.
      let e = x.0 in
      let is : t ≡ Child e.target = sym x.2 ∙ top_target many e in
      let s = top_sits many i e x.1 in
      let high = le-ltb e.target leaves (omega (arith, s.number)) in
      let b : e.target - leaves ≡ i = omega (arith, s.number) in (
        ap home is ∙ cond-false (ltb e.target leaves) (leaves + e.target / 16) (leaves + middles) high,
        ap seat is ∙ cond-false (ltb e.target leaves) (e.target % 16) (e.target - leaves) high ∙ b,
      ))
      (λ n h i t x. past_none n i x.0 h x.1)

  only_all : (t : Target) (n i k j : ℕ) → Names m n i t → Names m k j t → (n ≡ k) × (i ≡ j)
  only_all t n i k j x y =
      let a = at_home n i t x in
      let b = at_home k j t y in
      (sym a.0 ∙ b.0, sym a.1 ∙ b.1)

  pub tree_accepted : Accepted m
  tree_accepted =
      accepted_by m (record {
        few = omega (arith, total, few_places);
        filled = filled_all;
        peopled = peopled_all;
        below = below_all;
        named = named_all;
        only = only_all;
      })

  -- ---- every pick is named

  named_pick : (p : ℕ) → p < picks → Names m (p / 16) (p % 16) (Pick p)
  named_pick p h =
      let a : p / 16 < leaves = omega arith in
      let x = row_filled m (p / 16) 0 0 (p / 16) bs (leaf_at (p / 16) a) full (p % 16) (omega arith) (omega arith) in
      let number : x.0.target ≡ p = omega (arith, (leaf_sits (p / 16) a (p % 16) x.0 x.1).number) in
      (x.0, x.1, leaf_target (p / 16) a x.0 ∙ ap Pick number)

  pub picks_all : picks_named m ≡ pick_limit m
  unfolding picks_named
  picks_all = count_all (λ p. is_named m (Pick p)) (pick_limit m) (λ p h. named_at m (p / 16) (p % 16) (Pick p) (named_pick p (omega (arith, same))))

pub sixteens_accepted : SixteensAccepted
sixteens_accepted bs ks some most same full = tree_accepted bs ks some most same full
