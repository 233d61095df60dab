-- What lies below a place of the tree by sixteens.
use Rattle.std.specs.Prelude.{◌≡◌, ℕ, zero, suc, ◌+◌, ◌-◌, ◌*◌, ◌<◌, ◌≤◌, min, List, [], ◌∷◌, length, get_or, take, drop, Some, None, Option, MatchOption, ◌==◌, nat_le, nat_lt, slice_index_or, slice_range, refl}
use Rattle.std.proofs.Common.{⊎_elim, sym, ◌∙◌, ap, subst, one-mul, add-zero, arith, length-drop}
use Rattle.std.proofs.Math.Seq.{take-add, take-nil}
use Rattle.std.proofs.lemmas.List.{get_or_past, get_or-drop, drop-drop, take_all}
use Rattle.std.proofs.lemmas.Bool.{cases_lt, cond_both, ltb-true, ltb-false, eqb-true}
use Rattle.book.specs.Model.{Node, no_node}
use Rattle.book.specs.declared.place.Entry.{Entry}
use Rattle.geometry.specs.declared.bounds.Bounds.{Bounds}
use Rattle.makes.specs.Places.{place_for}
use Rattle.makes.specs.Smallest.{around_both, smallest}
use Rattle.makes.specs.Sixteens.{named, group_count, group, by_sixteens, level_at, places_at, place_at}
use Rattle.makes.specs.Covered.{leaf_row, middle_row, top_row, row_of}
use Rattle.makes.specs.declared.sixteens.Row.{Row}
use Rattle.makes.specs.Smallests.{around_none, smallest_append}
use Rattle.makes.specs.Groups.{named_length, named_at, group_length, group_at, group_past, above, above_length, above_at}
use Rattle.makes.specs.Rows.{at_level, row_node, tree_node}

-- the first of a run, and the rest of it
smallest_first : (k : ℕ) (ys : List (Option Bounds)) → smallest (take (suc k) ys) ≡ around_both (slice_index_or ys 0 None) (smallest (take k (drop 1 ys)))
smallest_first k [] = sym (ap smallest (take-nil k))
smallest_first k (y ∷ ys) = refl

-- a run of groups is a run of what is grouped
pub run_above : (k a : ℕ) (bs : List (Option Bounds)) → smallest (take k (drop a (above bs))) ≡ smallest (take (16 * k) (drop (16 * a) bs))
run_above zero a bs = refl
run_above (suc k) a bs =
    let start : get_or (drop a (above bs)) 0 None ≡ smallest (take 16 (drop (16 * a) bs)) =
    get_or-drop a (above bs) 0 None ∙ ap (λ n. get_or (above bs) n None) (add-zero a) ∙ above_at bs a
    in
    let onward : drop (16 * (a + 1)) bs ≡ drop 16 (drop (16 * a) bs) =
    ap (λ n. drop n bs) (omega arith) ∙ sym (drop-drop 16 (16 * a) bs)
    in
    let wide : 16 + 16 * k ≡ 16 * suc k = omega arith in
    smallest_first k (drop a (above bs))
    ∙ ap (λ x. around_both x (smallest (take k (drop 1 (drop a (above bs)))))) start
    ∙ ap (λ ys. around_both (smallest (take 16 (drop (16 * a) bs))) (smallest (take k ys))) (drop-drop 1 a (above bs))
    ∙ ap (around_both (smallest (take 16 (drop (16 * a) bs)))) (run_above k (a + 1) bs ∙ ap (λ ys. smallest (take (16 * k) ys)) onward)
    ∙ sym (smallest_append (take 16 (drop (16 * a) bs)) (take (16 * k) (drop 16 (drop (16 * a) bs))))
    ∙ ap smallest (sym (take-add 16 (16 * k) (drop (16 * a) bs)))
    ∙ ap (λ n. smallest (take n (drop (16 * a) bs))) wide

run_one : (q : ℕ) (bs : List (Option Bounds)) → slice_index_or bs q None ≡ smallest (take 1 (drop q bs))
run_one q bs =
    sym (smallest_first 0 (drop q bs) ∙ around_none (slice_index_or (drop q bs) 0 None) ∙ get_or-drop q bs 0 None ∙ ap (λ n. get_or bs n None) (add-zero q))

-- a run past the end stops at the end
clip : (w a end : ℕ) (bs : List (Option Bounds)) → end ≡ min (a + w) (length bs) → smallest (take w (drop a bs)) ≡ smallest (slice_range bs a end)
clip w a end bs e =
    ⊎_elim
    (λ (h : a + w < length bs). ap (λ k. smallest (take k (drop a bs))) (omega arith))
    (λ (h : length bs ≤ a + w).
    let short : length (drop a bs) ≤ w = omega (arith, length-drop a bs) in
    let whole : length (drop a bs) ≤ end - a = omega (arith, length-drop a bs) in
    ap smallest (take_all w (drop a bs) short ∙ sym (take_all (end - a) (drop a bs) whole)))
    (cases_lt (a + w) (length bs))

-- what is known of the row that a node stands in
pub record RowAt (n node : ℕ) (r : Row) : Type 0 where
  pub at_least : r.first ≤ node
  pub in_row : 16 * (node - r.first) < r.places
  pub spread : (q : ℕ) → q < r.places → r.below * q < n
  pub wide : 0 < r.below
  pub low : r.level ≤ 2
  pub near : r.target + r.places ≤ 1063
  pub many : (bs : List (Option Bounds)) → length bs ≡ n → length (at_level r.level bs) ≡ r.places
  pub box : (bs : List (Option Bounds)) (q : ℕ) → slice_index_or (at_level r.level bs) q None ≡ smallest (take r.below (drop (r.below * q) bs))

abbrev pub Good : ℕ → ℕ → Option Row → Type 0
Good n node (Some r) = RowAt n node r
Good n node None = Unit {0}

good_leaf : (n node : ℕ) → n ≤ 1000 → node < group_count n → RowAt n node (leaf_row n)
good_leaf n node most h =
    record {
      at_least = omega arith;
      in_row = omega arith;
      spread = λ q k. omega arith;
      wide = omega arith;
      low = omega arith;
      near = omega arith;
      many = λ bs e. e;
      box = λ bs q. run_one q bs ∙ ap (λ k. smallest (take 1 (drop k bs))) (sym (one-mul q));
    }

good_middle : (n node : ℕ) → n ≤ 1000 → group_count n ≤ node → node < group_count n + group_count (group_count n) → RowAt n node (middle_row n)
good_middle n node most past h =
    record {
      at_least = past;
      in_row = omega arith;
      spread = λ q k. omega arith;
      wide = omega arith;
      low = omega arith;
      near = omega arith;
      many = λ bs e. above_length bs ∙ ap group_count e;
      box = above_at;
    }

good_top : (n node : ℕ) → n ≤ 1000 → node ≡ group_count n + group_count (group_count n) → 0 < n → RowAt n node (top_row n)
good_top n node most e some =
    record {
      at_least = omega arith;
      in_row = omega arith;
      spread = λ q k. omega arith;
      wide = omega arith;
      low = omega arith;
      near = omega arith;
      many = λ bs f. above_length (above bs) ∙ ap group_count (above_length bs ∙ ap group_count f);
      box = λ bs q.
          let far : 16 * (16 * q) ≡ 256 * q = omega arith in
          above_at (above bs) q ∙ run_above 16 (16 * q) bs ∙ ap (λ k. smallest (take 256 (drop k bs))) far;
    }

pub row_good : (n node : ℕ) → 0 < n → n ≤ 1000 → Good n node (row_of n node)
row_good n node some most =
    cond_both (nat_lt node (group_count n)) (Some (leaf_row n)) _ (Good n node) (λ e. good_leaf n node most (ltb-true node (group_count n) e))
    (λ e.
    let past : group_count n ≤ node = ltb-false node (group_count n) e in
    cond_both (nat_le n 16) None _ (Good n node) (λ i. tt)
    (λ i.
    let upper = group_count n + group_count (group_count n) in
    cond_both (nat_lt node upper) (Some (middle_row n)) _ (Good n node)
    (λ j. good_middle n node most past (ltb-true node upper j))
    (λ j.
    cond_both (nat_le (group_count n) 16) None _ (Good n node) (λ k. tt)
    (λ k.
    cond_both (node == upper) (Some (top_row n)) None (Good n node)
    (λ l. good_top n node most (eqb-true node upper l) some) (λ l. tt)))))

-- the answers at a node, from its row
module _ (n node : ℕ) (bs : List (Option Bounds)) (e : length bs ≡ n) (most : n ≤ 1000) where
  node_by : (o : Option Row) → o ≡ row_of n node → slice_index_or (by_sixteens bs) node no_node ≡ row_node bs o node
  node_by o p = tree_node bs node (omega arith) ∙ ap (λ k. row_node bs (row_of k node) node) e ∙ ap (λ x. row_node bs x node) (sym p)

  pub level_some : (r : Row) → Some r ≡ row_of n node → r.level ≡ level_at (by_sixteens bs) node
  level_some r p = sym (ap (λ (k : Node). k.level) (node_by (Some r) p))

  pub level_none : None ≡ row_of n node → 0 ≡ level_at (by_sixteens bs) node
  level_none p = sym (ap (λ (k : Node). k.level) (node_by None p))

  places_none : None ≡ row_of n node → places_at (by_sixteens bs) node ≡ []
  places_none p = ap (λ (k : Node). k.places) (node_by None p)

  pub count_none : None ≡ row_of n node → 0 ≡ length (places_at (by_sixteens bs) node)
  count_none p = sym (ap length (places_none p))

  pub place_none : (i : ℕ) → None ≡ row_of n node → None ≡ place_at (by_sixteens bs) node i
  place_none i p = sym (ap (λ (ps : List (Option Entry)). get_or ps i None) (places_none p))

  -- a node's level, from its row if it has one
  pub level_by : (o : Option Row) (v : ℕ) → o ≡ row_of n node → MatchOption o (v ≡ 0) (λ r. v ≡ r.level) → v ≡ level_at (by_sixteens bs) node
  level_by (Some r) v p h = h ∙ level_some r p
  level_by None v p h = h ∙ level_none p

  module _ (r : Row) (p : Some r ≡ row_of n node) (some : 0 < n) where
    pub facts : RowAt n node r
    facts = subst (Good n node) (sym p) (row_good n node some most)

    places_some : places_at (by_sixteens bs) node ≡ group (named r.target (at_level r.level bs)) (node - r.first)
    places_some = ap (λ (k : Node). k.places) (node_by (Some r) p)

    named_many : length (named r.target (at_level r.level bs)) ≡ r.places
    named_many = named_length r.target (at_level r.level bs) ∙ facts.many bs e

    pub count_some : min (r.places - 16 * (node - r.first)) 16 ≡ length (places_at (by_sixteens bs) node)
    count_some =
        let counted = group_length (named r.target (at_level r.level bs)) (node - r.first) in
        sym (ap length places_some ∙ counted ∙ omega (arith, named_many))

    pub place_at_lem : (i : ℕ) → i < 16 → place_at (by_sixteens bs) node i ≡ place_for (r.target + (16 * (node - r.first) + i)) (slice_index_or (at_level r.level bs) (16 * (node - r.first) + i) None)
    place_at_lem i h =
        ap (λ (ps : List (Option Entry)). get_or ps i None) places_some
        ∙ group_at (named r.target (at_level r.level bs)) (node - r.first) i None h
        ∙ named_at r.target (at_level r.level bs) (16 * (node - r.first) + i)

    pub place_wide : (i : ℕ) → 16 ≤ i → None ≡ place_at (by_sixteens bs) node i
    place_wide i h =
        sym (ap (λ (ps : List (Option Entry)). get_or ps i None) places_some
        ∙ group_past (named r.target (at_level r.level bs)) (node - r.first) i None h)

    pub place_past : (i : ℕ) → i < 16 → r.places ≤ 16 * (node - r.first) + i → None ≡ place_at (by_sixteens bs) node i
    place_past i h past =
        let q = 16 * (node - r.first) + i in
        sym (place_at_lem i h ∙ ap (place_for (r.target + q)) (get_or_past (at_level r.level bs) q None (omega (arith, facts.many bs e))))

    pub place_covered : (i end : ℕ) → i < 16 → end ≡ min (r.below * (16 * (node - r.first) + i) + r.below) n → place_for (r.target + (16 * (node - r.first) + i)) (smallest (take (end - r.below * (16 * (node - r.first) + i)) (drop (r.below * (16 * (node - r.first) + i)) bs))) ≡ place_at (by_sixteens bs) node i
    place_covered i end h f =
        let q = 16 * (node - r.first) + i in
        sym (place_at_lem i h ∙ ap (place_for (r.target + q)) (facts.box bs q ∙ clip r.below (r.below * q) end bs (f ∙ ap (min (r.below * q + r.below)) (sym e))))

  -- how many places a node has, from its row if it has one
  pub count_by : (some : 0 < n) (o : Option Row) (v : ℕ) → o ≡ row_of n node → MatchOption o (v ≡ 0) (λ r. v ≡ min (r.places - 16 * (node - r.first)) 16) → v ≡ length (places_at (by_sixteens bs) node)
  count_by some (Some r) v p h = h ∙ count_some r p some
  count_by some None v p h = h ∙ count_none p
