-- What is true of every tree by sixteens over 1 to 1,000.
use Rattle.std.specs.Prelude.{◌≡◌, ℕ, zero, suc, ◌+◌, ◌-◌, ◌*◌, ◌/◌, ◌%◌, ◌<◌, ◌≤◌, min, List, [], ◌∷◌, map, length, get_or, take, drop, None, sum_by, Option, nat_le, slice_index_or, refl}
use Rattle.std.proofs.Common.{append-nil, ⊎_elim, sym, ◌∙◌, zero-add, add-one, length-append}
use Rattle.std.proofs.Math.Path.{ap}
use Rattle.std.proofs.Common.{arith}
use Rattle.std.specs.List.{range_with_len}
use Rattle.std.proofs.lemmas.List.FromFn.{sum_by-map-range_with_len_more}
use Rattle.std.proofs.lemmas.List.{take-map, drop-map}
use Rattle.std.proofs.lemmas.List.Sums.{sum_by-cons, sum_by-append}
use Rattle.std.proofs.lemmas.Bool.{cases_lt, cond-true, cond-false, le-leb, lt-leb}
use Rattle.book.specs.Model.{Node, no_node}
use Rattle.book.specs.declared.place.Entry.{Entry}
use Rattle.geometry.specs.declared.bounds.Bounds.{Bounds}
use Rattle.makes.specs.Places.{place_for}
use Rattle.makes.specs.Smallest.{smallest, box_of}
use Rattle.makes.specs.Sixteens.{named, group_count, group, groups, node_with, row, rows, by_sixteens, level_at, places_at, place_at, place_total, nodes_for, places_for, NamesBelow, TreeBySixteens}
use Rattle.makes.specs.Groups.{named_length, named_at, named_boxes, group_length, group_at, above, above_length, above_at}
use Rattle.makes.specs.Rows.{here_length, last_row, not_last_row, leaf_node, one_row, middle_node, two_rows, top_node, three_rows}

-- the places of one row
groups_total : {A : Type 0} (xs : List A) (k : ℕ) → sum_by length (map (group xs) (range_with_len 0 k)) ≡ min (length xs) (16 * k)
groups_total xs zero = omega arith
groups_total xs (suc k) =
    let more = sum_by-map-range_with_len_more length (group xs) 0 k k (zero-add k) in
    ap (λ n. sum_by length (map (group xs) (range_with_len 0 n))) (sym (add-one k))
    ∙ more
    ∙ omega (arith, groups_total xs k, group_length xs k)

nodes_total : (v : ℕ) (gs : List (List (Option Entry))) → place_total (map (node_with v) gs) ≡ sum_by length gs
nodes_total v [] = refl
nodes_total v (x ∷ gs) =
    sum_by-cons (λ (n : Node). length n.places) (node_with v x) (map (node_with v) gs)
    ∙ ap (λ k. length x + k) (nodes_total v gs)
    ∙ sym (sum_by-cons length x gs)

row_total : (v : ℕ) (ps : List (Option Entry)) → place_total (row v ps) ≡ length ps
row_total v ps = nodes_total v (groups ps) ∙ groups_total ps (group_count (length ps)) ∙ omega arith

module _ (more v t f : ℕ) (bs : List (Option Bounds)) where
  count_last : length bs ≤ 16 → length (rows (suc more) v t f bs) ≡ group_count (length bs)
  count_last h = ap length (last_row more v t f bs h ∙ append-nil (row v (named t bs))) ∙ here_length more v t f bs

  count_more : 16 < length bs → length (rows (suc more) v t f bs) ≡ group_count (length bs) + length (rows more (v + 1) f (f + group_count (length bs)) (above bs))
  count_more h =
      ap length (not_last_row more v t f bs h)
      ∙ length-append (row v (named t bs)) _
      ∙ ap (λ k. k + length (rows more (v + 1) f (f + group_count (length bs)) (above bs))) (here_length more v t f bs)

  here_total : place_total (row v (named t bs)) ≡ length bs
  here_total = row_total v (named t bs) ∙ named_length t bs

  total_last : length bs ≤ 16 → place_total (rows (suc more) v t f bs) ≡ length bs
  total_last h = ap place_total (last_row more v t f bs h ∙ append-nil (row v (named t bs))) ∙ here_total

  total_more : 16 < length bs → place_total (rows (suc more) v t f bs) ≡ length bs + place_total (rows more (v + 1) f (f + group_count (length bs)) (above bs))
  total_more h =
      ap place_total (not_last_row more v t f bs h)
      ∙ sum_by-append (λ (n : Node). length n.places) (row v (named t bs)) _
      ∙ ap (λ k. k + place_total (rows more (v + 1) f (f + group_count (length bs)) (above bs))) here_total

module _ (bs : List (Option Bounds)) (some : 0 < length bs) (most : length bs ≤ 1000) where
  abbrev n : ℕ
  n = length bs

  small_count : n ≤ 16 → length (by_sixteens bs) ≡ 1
  unfolding by_sixteens
  small_count h = omega (arith, count_last 7 0 0 0 bs h)

  middle_count : 16 < n → n ≤ 256 → length (by_sixteens bs) ≡ group_count n + 1
  unfolding by_sixteens
  middle_count h k = omega (arith, count_more 7 0 0 0 bs h, count_last 6 1 0 (0 + group_count n) (above bs) (omega (arith, above_length bs)), above_length bs)

  large_count : 256 < n → length (by_sixteens bs) ≡ group_count n + group_count (group_count n) + 1
  unfolding by_sixteens
  large_count h =
      let one = count_more 7 0 0 0 bs (omega arith) in
      let two = count_more 6 1 0 (0 + group_count n) (above bs) (omega (arith, above_length bs)) in
      let three = count_last 5 2 (0 + group_count n) (0 + group_count n + group_count (length (above bs))) (above (above bs)) (omega (arith, above_length bs, above_length (above bs))) in
      omega (arith, one, two, three, above_length bs, above_length (above bs))

  nodes_by : length (by_sixteens bs) ≡ nodes_for n
  nodes_by =
      ⊎_elim
      (λ (h : 256 < n). large_count h ∙ sym (cond-false (nat_le n 16) 1 _ (lt-leb n 16 (omega arith)) ∙ cond-false (nat_le n 256) _ _ (lt-leb n 256 h)))
      (λ (h : n ≤ 256).
      ⊎_elim
      (λ (k : 16 < n). middle_count k h ∙ sym (cond-false (nat_le n 16) 1 _ (lt-leb n 16 k) ∙ cond-true (nat_le n 256) _ _ (le-leb n 256 h)))
      (λ (k : n ≤ 16). small_count k ∙ sym (cond-true (nat_le n 16) 1 _ (le-leb n 16 k)))
      (cases_lt 16 n))
      (cases_lt 256 n)

  small_total : n ≤ 16 → place_total (by_sixteens bs) ≡ n
  unfolding by_sixteens
  small_total h = total_last 7 0 0 0 bs h

  middle_total : 16 < n → n ≤ 256 → place_total (by_sixteens bs) ≡ n + group_count n
  unfolding by_sixteens
  middle_total h k =
      let one = total_more 7 0 0 0 bs h in
      let two = total_last 6 1 0 (0 + group_count n) (above bs) (omega (arith, above_length bs)) in
      one ∙ ap (λ k. n + k) (two ∙ above_length bs)

  large_total : 256 < n → place_total (by_sixteens bs) ≡ n + group_count n + group_count (group_count n)
  unfolding by_sixteens
  large_total h =
      let one = total_more 7 0 0 0 bs (omega arith) in
      let two = total_more 6 1 0 (0 + group_count n) (above bs) (omega (arith, above_length bs)) in
      let three = total_last 5 2 (0 + group_count n) (0 + group_count n + group_count (length (above bs))) (above (above bs)) (omega (arith, above_length bs, above_length (above bs))) in
      let last = three ∙ above_length (above bs) ∙ ap group_count (above_length bs) in
      one ∙ ap (λ k. n + k) (two ∙ ap (λ k. length (above bs) + k) last ∙ ap (λ k. k + group_count (group_count n)) (above_length bs)) ∙ omega arith

  places_by : place_total (by_sixteens bs) ≡ places_for n
  places_by =
      ⊎_elim
      (λ (h : 256 < n). large_total h ∙ sym (cond-false (nat_le n 16) n _ (lt-leb n 16 (omega arith)) ∙ cond-false (nat_le n 256) _ _ (lt-leb n 256 h)))
      (λ (h : n ≤ 256).
      ⊎_elim
      (λ (k : 16 < n). middle_total k h ∙ sym (cond-false (nat_le n 16) n _ (lt-leb n 16 k) ∙ cond-true (nat_le n 256) _ _ (le-leb n 256 h)))
      (λ (k : n ≤ 16). small_total k ∙ sym (cond-true (nat_le n 16) n _ (le-leb n 16 k)))
      (cases_lt 16 n))
      (cases_lt 256 n)

  -- pick j stands in leaf j / 16
  seat_by : (j : ℕ) → j < n → place_at (by_sixteens bs) (j / 16) (j % 16) ≡ place_for j (slice_index_or bs j None)
  seat_by j h =
      let back : 16 * (j / 16 - 0) + j % 16 ≡ j = omega arith in
      ap (λ (k : Node). get_or k.places (j % 16) None) (leaf_node bs (j / 16) (omega arith))
      ∙ group_at (named 0 bs) (j / 16 - 0) (j % 16) None (omega arith)
      ∙ ap (λ k. get_or (named 0 bs) k None) back
      ∙ named_at 0 bs j
      ∙ ap (λ k. place_for k (slice_index_or bs j None)) (zero-add j)

-- the boxes of a group of places
group_boxes : (t : ℕ) (xs : List (Option Bounds)) (k : ℕ) → map box_of (group (named t xs) k) ≡ group xs k
group_boxes t xs k =
    sym (take-map box_of 16 (drop (16 * k) (named t xs)))
    ∙ ap (take 16) (sym (drop-map box_of (16 * k) (named t xs)))
    ∙ ap (λ ys. take 16 (drop (16 * k) ys)) (named_boxes t xs)

-- place q of the row over xs names the node of that group
names_group : (ns : List Node) (node child v t t' k i : ℕ) (xs : List (Option Bounds)) → slice_index_or ns node no_node ≡ node_with (v + 1) (group (named t (above xs)) k) → i < length (places_at ns node) → t + (16 * k + i) ≡ child → slice_index_or ns child no_node ≡ node_with v (group (named t' xs) (16 * k + i)) → NamesBelow ns node i
names_group ns node child v t t' k i xs here inside number there =
    let count = ap (λ (x : Node). length x.places) here ∙ group_length (named t (above xs)) k in
    let low : i < 16 = omega (arith, count) in
    let q = 16 * k + i in
    record {
      child = child;
      lower = ap (λ (x : Node). x.level + 1) there ∙ sym (ap (λ (x : Node). x.level) here);
      by_smallest =
          ap (λ (x : Node). get_or x.places i None) here
          ∙ group_at (named t (above xs)) k i None low
          ∙ named_at t (above xs) q
          ∙ ap (place_for (t + q)) (above_at xs q ∙ ap smallest (sym (group_boxes t' xs q)))
          ∙ ap (λ c. place_for c (smallest (map box_of (group (named t' xs) q)))) number
          ∙ ap (λ (x : Node). place_for child (smallest (map box_of x.places))) (sym there);
    }

no_level : {P : Type 0} (ns : List Node) (node : ℕ) (x : Node) → slice_index_or ns node no_node ≡ x → x.level ≡ 0 → 0 < level_at ns node → P
no_level ns node x e z h = absurd (omega (arith, ap (λ (k : Node). k.level) e))

-- a place within a group is a place of the row
in_row : (ns : List Node) (node v t k i : ℕ) (xs : List (Option Bounds)) → slice_index_or ns node no_node ≡ node_with v (group (named t xs) k) → i < length (places_at ns node) → 16 * k + i < length xs
in_row ns node v t k i xs here inside =
    let count = ap (λ (x : Node). length x.places) here ∙ group_length (named t xs) k in
    omega (arith, count, named_length t xs)

module _ (bs : List (Option Bounds)) (most : length bs ≤ 1000) (node i : ℕ) where
  abbrev leaves : ℕ
  leaves = group_count (length bs)

  abbrev middles : ℕ
  middles = group_count leaves

  abbrev Named : Type 0
  Named = 0 < level_at (by_sixteens bs) node → i < length (places_at (by_sixteens bs) node) → NamesBelow (by_sixteens bs) node i

  inner_middle : leaves ≤ node → 16 < length bs → node < leaves + middles → Named
  inner_middle past more below high inside =
      let k = node - leaves in
      let here = middle_node bs node past more below in
      let q : 16 * k + i < length (above bs) = in_row (by_sixteens bs) node 1 0 k i (above bs) here inside in
      let same : 16 * k + i - 0 ≡ 16 * k + i = omega arith in
      names_group (by_sixteens bs) node (16 * k + i) 0 0 0 k i bs here inside (zero-add (16 * k + i))
      (leaf_node bs (16 * k + i) (omega (arith, above_length bs)) ∙ ap (λ z. node_with 0 (group (named 0 bs) z)) same)

  inner_top : leaves ≤ node → 16 < length bs → 16 < leaves → node ≡ leaves + middles → Named
  inner_top past more many e high inside =
      let k = node - (leaves + middles) in
      let here = top_node bs node most past more many e in
      let q : 16 * k + i < length (above (above bs)) = in_row (by_sixteens bs) node 2 leaves k i (above (above bs)) here inside in
      let child = leaves + (16 * k + i) in
      let same : child - leaves ≡ 16 * k + i = omega arith in
      names_group (by_sixteens bs) node child 1 leaves 0 k i (above bs) here inside refl
      (middle_node bs child (omega arith) more (omega (arith, above_length (above bs), ap group_count (above_length bs))) ∙ ap (λ z. node_with 1 (group (named 0 (above bs)) z)) same)

  inner_by : Named
  inner_by high inside =
      ⊎_elim
      (λ (h : node < leaves). no_level (by_sixteens bs) node _ (leaf_node bs node h) refl high)
      (λ (past : leaves ≤ node).
      ⊎_elim
      (λ (more : 16 < length bs).
      ⊎_elim
      (λ (h : node < leaves + middles). inner_middle past more h high inside)
      (λ (past' : leaves + middles ≤ node).
      ⊎_elim
      (λ (many : 16 < leaves).
      ⊎_elim
      (λ (h : leaves + middles < node). no_level (by_sixteens bs) node _ (three_rows bs node most past more many h) refl high)
      (λ (h : node ≤ leaves + middles). inner_top past more many (omega arith) high inside)
      (cases_lt (leaves + middles) node))
      (λ (few : leaves ≤ 16). no_level (by_sixteens bs) node _ (two_rows bs node past more past' few) refl high)
      (cases_lt 16 leaves))
      (cases_lt node (leaves + middles)))
      (λ (few : length bs ≤ 16). no_level (by_sixteens bs) node _ (one_row bs node past few) refl high)
      (cases_lt 16 (length bs)))
      (cases_lt node leaves)

pub tree_by : (bs : List (Option Bounds)) → 0 < length bs → length bs ≤ 1000 → TreeBySixteens bs
tree_by bs some most =
    record {
      nodes = nodes_by bs some most;
      places = places_by bs some most;
      seat = seat_by bs some most;
      inner = inner_by bs most;
    }
