-- Each node of the tree by sixteens, from the row that it stands in.
use Rattle.std.specs.Prelude.{◌≡◌, ℕ, zero, suc, ◌+◌, ◌-◌, ◌<◌, ◌≤◌, List, [], ◌++◌, length, get_or, Some, None, Option, ◌==◌, nat_le, nat_lt, slice_index_or}
use Rattle.std.proofs.Common.{◌∙◌, zero-add, length-append}
use Rattle.std.proofs.Math.Path.{ap}
use Rattle.std.proofs.Common.{arith}
use Rattle.std.proofs.lemmas.List.{get_or_past, get_or_append_left, get_or-append_right}
use Rattle.std.proofs.lemmas.Bool.{cond_both, cond-true, cond-false, ltb-true, ltb-false, leb-true, leb-false, le-leb, lt-leb, eqb-true, eqb-false}
use Rattle.book.specs.Model.{Node, no_node}
use Rattle.geometry.specs.declared.bounds.Bounds.{Bounds}
use Rattle.makes.specs.Sixteens.{named, group_count, group, node_with, row, rows, by_sixteens}
use Rattle.makes.specs.Covered.{leaf_row, middle_row, top_row, row_of}
use Rattle.makes.specs.declared.sixteens.Row.{Row}
use Rattle.makes.specs.Groups.{named_length, row_length, row_at, above, above_length}

-- one row and what stands above it
module _ (more v t f : ℕ) (bs : List (Option Bounds)) where
  pub here_length : length (row v (named t bs)) ≡ group_count (length bs)
  here_length = row_length v (named t bs) ∙ ap group_count (named_length t bs)

  pub row_here : (k : ℕ) → k < group_count (length bs) → slice_index_or (rows (suc more) v t f bs) k no_node ≡ node_with v (group (named t bs) k)
  row_here k h =
      let long : k < length (row v (named t bs)) = omega (arith, here_length) in
      get_or_append_left (row v (named t bs)) _ no_node k long
      ∙ row_at v (named t bs) k (omega (arith, ap group_count (named_length t bs)))

  pub last_row : length bs ≤ 16 → rows (suc more) v t f bs ≡ row v (named t bs) ++ []
  last_row h = ap (λ ns. row v (named t bs) ++ ns) (cond-true (nat_le (length bs) 16) [] _ (le-leb (length bs) 16 h))

  pub row_last : (k : ℕ) → length bs ≤ 16 → group_count (length bs) ≤ k → slice_index_or (rows (suc more) v t f bs) k no_node ≡ no_node
  row_last k h past =
      ap (λ ns. get_or ns k no_node) (last_row h)
      ∙ get_or_past (row v (named t bs) ++ []) k no_node (simp length-append (omega (arith, here_length)))

  pub not_last_row : 16 < length bs → rows (suc more) v t f bs ≡ row v (named t bs) ++ rows more (v + 1) f (f + group_count (length bs)) (above bs)
  not_last_row h = ap (λ ns. row v (named t bs) ++ ns) (cond-false (nat_le (length bs) 16) [] _ (lt-leb (length bs) 16 h))

  pub row_up : (k : ℕ) → 16 < length bs → group_count (length bs) ≤ k → slice_index_or (rows (suc more) v t f bs) k no_node ≡ slice_index_or (rows more (v + 1) f (f + group_count (length bs)) (above bs)) (k - group_count (length bs)) no_node
  row_up k h past =
      ap (λ ns. get_or ns k no_node) (not_last_row h)
      ∙ get_or-append_right (row v (named t bs)) _ (group_count (length bs)) k no_node here_length past

-- the boxes of a level
abbrev pub at_level : ℕ → List (Option Bounds) → List (Option Bounds)
at_level zero bs = bs
at_level (suc v) bs = above (at_level v bs)

abbrev pub row_node : List (Option Bounds) → Option Row → ℕ → Node
row_node bs (Some r) node = node_with r.level (group (named r.target (at_level r.level bs)) (node - r.first))
row_node bs None node = no_node

module _ (bs : List (Option Bounds)) (node : ℕ) where
  abbrev leaves : ℕ
  leaves = group_count (length bs)

  abbrev middles : ℕ
  middles = group_count leaves

  pub leaf_node : node < leaves → slice_index_or (by_sixteens bs) node no_node ≡ row_node bs (Some (leaf_row (length bs))) node
  unfolding by_sixteens
  leaf_node h =
      let same : node ≡ node - 0 = omega arith in
      row_here 7 0 0 0 bs node h ∙ ap (λ k. node_with 0 (group (named 0 bs) k)) same

  pub one_row : leaves ≤ node → length bs ≤ 16 → slice_index_or (by_sixteens bs) node no_node ≡ no_node
  unfolding by_sixteens
  one_row past h = row_last 7 0 0 0 bs node h past

  above_leaves : leaves ≤ node → 16 < length bs → slice_index_or (by_sixteens bs) node no_node ≡ slice_index_or (rows 7 1 0 (0 + leaves) (above bs)) (node - leaves) no_node
  unfolding by_sixteens
  above_leaves past h = row_up 7 0 0 0 bs node h past

  pub middle_node : leaves ≤ node → 16 < length bs → node < leaves + middles → slice_index_or (by_sixteens bs) node no_node ≡ row_node bs (Some (middle_row (length bs))) node
  middle_node past h in' =
      above_leaves past h
      ∙ row_here 6 1 0 (0 + leaves) (above bs) (node - leaves) (omega (arith, ap group_count (above_length bs)))

  pub two_rows : leaves ≤ node → 16 < length bs → leaves + middles ≤ node → leaves ≤ 16 → slice_index_or (by_sixteens bs) node no_node ≡ no_node
  two_rows past h past' small =
      above_leaves past h
      ∙ row_last 6 1 0 (0 + leaves) (above bs) (node - leaves) (omega (arith, above_length bs)) (omega (arith, ap group_count (above_length bs)))

  above_middles : leaves ≤ node → 16 < length bs → leaves + middles ≤ node → 16 < leaves → slice_index_or (by_sixteens bs) node no_node ≡ slice_index_or (rows 6 2 leaves (leaves + middles) (above (above bs))) (node - (leaves + middles)) no_node
  above_middles past h past' many =
      let same : node - leaves - group_count (length (above bs)) ≡ node - (leaves + middles) = omega (arith, ap group_count (above_length bs)) in
      above_leaves past h
      ∙ row_up 6 1 0 (0 + leaves) (above bs) (node - leaves) (omega (arith, above_length bs)) (omega (arith, ap group_count (above_length bs)))
      ∙ ap (λ k. get_or (rows 6 2 (0 + leaves) (0 + leaves + group_count (length (above bs))) (above (above bs))) k no_node) same
      ∙ ap (λ k. get_or (rows 6 2 k (k + group_count (length (above bs))) (above (above bs))) (node - (leaves + middles)) no_node) (zero-add leaves)
      ∙ ap (λ k. get_or (rows 6 2 leaves (leaves + group_count k) (above (above bs))) (node - (leaves + middles)) no_node) (above_length bs)

  twice_above : length (above (above bs)) ≡ middles
  twice_above = above_length (above bs) ∙ ap group_count (above_length bs)

  pub top_node : length bs ≤ 1000 → leaves ≤ node → 16 < length bs → 16 < leaves → node ≡ leaves + middles → slice_index_or (by_sixteens bs) node no_node ≡ row_node bs (Some (top_row (length bs))) node
  top_node most past h many e =
      above_middles past h (omega arith) many
      ∙ row_here 5 2 leaves (leaves + middles) (above (above bs)) (node - (leaves + middles)) (omega (arith, twice_above))

  pub three_rows : length bs ≤ 1000 → leaves ≤ node → 16 < length bs → 16 < leaves → leaves + middles < node → slice_index_or (by_sixteens bs) node no_node ≡ no_node
  three_rows most past h many past' =
      above_middles past h (omega arith) many
      ∙ row_last 5 2 leaves (leaves + middles) (above (above bs)) (node - (leaves + middles)) (omega (arith, twice_above)) (omega (arith, twice_above))

  -- each node of the tree
  pub tree_node : length bs ≤ 1000 → slice_index_or (by_sixteens bs) node no_node ≡ row_node bs (row_of (length bs) node) node
  tree_node most =
      let P : Option Row → Type 0 = λ o. slice_index_or (by_sixteens bs) node no_node ≡ row_node bs o node in
      cond_both (nat_lt node leaves) (Some (leaf_row (length bs))) _ P (λ e. leaf_node (ltb-true node leaves e))
      (λ e.
      let past : leaves ≤ node = ltb-false node leaves e in
      cond_both (nat_le (length bs) 16) None _ P (λ i. one_row past (leb-true (length bs) 16 i))
      (λ i.
      let more : 16 < length bs = leb-false (length bs) 16 i in
      cond_both (nat_lt node (leaves + middles)) (Some (middle_row (length bs))) _ P
      (λ j. middle_node past more (ltb-true node (leaves + middles) j))
      (λ j.
      let past' : leaves + middles ≤ node = ltb-false node (leaves + middles) j in
      cond_both (nat_le leaves 16) None _ P (λ k. two_rows past more past' (leb-true leaves 16 k))
      (λ k.
      let many : 16 < leaves = leb-false leaves 16 k in
      cond_both (node == leaves + middles) (Some (top_row (length bs))) None P
      (λ l. top_node most past more many (eqb-true node (leaves + middles) l))
      (λ l. let ne = eqb-false node (leaves + middles) l in three_rows most past more many (omega (arith, ne)))))))
