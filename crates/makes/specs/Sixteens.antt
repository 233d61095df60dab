-- The tree by sixteens. What is grouped are boxes in order, missing where nothing can be had.
use Rattle.std.specs.Prelude.{◌≡◌, ℕ, zero, suc, ◌+◌, ◌*◌, ◌/◌, ◌%◌, ◌<◌, cond, List, [], ◌∷◌, ◌++◌, map, length, get_or, take, drop, None, sum_by, Option, nat_le, slice_index_or}
use Rattle.std.specs.List.{range_with_len}
use Rattle.book.specs.Model.{Node, no_node}
use Rattle.book.specs.declared.place.Entry.{Entry}
use Rattle.geometry.specs.declared.bounds.Bounds.{Bounds}
use Rattle.makes.specs.Places.{place_for}
use Rattle.makes.specs.Smallest.{smallest, box_of}

-- places that name their targets in order, from this one on
abbrev pub named : ℕ → List (Option Bounds) → List (Option Entry)
named target [] = []
named target (b ∷ bs) = place_for target b ∷ named (target + 1) bs

-- how many groups of sixteen there are
abbrev pub group_count : ℕ → ℕ
group_count n = (n + 15) / 16

-- what stands from 16k to 16k + 15
abbrev pub group : {A : Type 0} → List A → ℕ → List A
group xs k = take 16 (drop (16 * k) xs)

abbrev pub groups : {A : Type 0} → List A → List (List A)
groups xs = map (group xs) (range_with_len 0 (group_count (length xs)))

abbrev pub node_with : ℕ → List (Option Entry) → Node
node_with level places = record { level = level; places = places }

-- the nodes of one level
abbrev pub row : ℕ → List (Option Entry) → List Node
row level places = map (node_with level) (groups places)

-- this row of nodes and the rows above it, until one node is left; the row's first place names `target`, and its first
-- node has the number `first`
abbrev pub rows : ℕ → ℕ → ℕ → ℕ → List (Option Bounds) → List Node
rows zero level target first boxes = []
rows (suc more) level target first boxes =
    row level (named target boxes)
    ++ cond (nat_le (length boxes) 16) []
    (rows more (level + 1) first (first + group_count (length boxes)) (map smallest (groups boxes)))

-- leaves first, then each higher level; a book has 8 levels
unfoldable pub by_sixteens : List (Option Bounds) → List Node
by_sixteens boxes = rows 8 0 0 0 boxes

-- a node of the tree, and a place of it
abbrev pub level_at : List Node → ℕ → ℕ
level_at ns n = (get_or ns n no_node).level

abbrev pub places_at : List Node → ℕ → List (Option Entry)
places_at ns n = (get_or ns n no_node).places

abbrev pub place_at : List Node → ℕ → ℕ → Option Entry
place_at ns n i = slice_index_or (places_at ns n) i None

abbrev pub place_total : List Node → ℕ
place_total ns = sum_by (λ n. length n.places) ns

-- how many nodes and places the tree over 1 to 1,000 picks has
abbrev pub nodes_for : ℕ → ℕ
nodes_for n =
    cond (nat_le n 16) 1
    (cond (nat_le n 256) (group_count n + 1) (group_count n + group_count (group_count n) + 1))

abbrev pub places_for : ℕ → ℕ
places_for n =
    cond (nat_le n 16) n
    (cond (nat_le n 256) (n + group_count n) (n + group_count n + group_count (group_count n)))

-- a place above the leaves names a node one level lower, by the smallest box around that node's entries
pub record NamesBelow (ns : List Node) (n i : ℕ) : Type 0 where
  pub child : ℕ
  pub lower : level_at ns child + 1 ≡ level_at ns n
  pub by_smallest : place_at ns n i ≡ place_for child (smallest (map box_of (places_at ns child)))

-- what is true of every tree over 1 to 1,000 picks
pub record TreeBySixteens (boxes : List (Option Bounds)) : Type 0 where
  pub nodes : length (by_sixteens boxes) ≡ nodes_for (length boxes)
  pub places : place_total (by_sixteens boxes) ≡ places_for (length boxes)
  pub seat : (j : ℕ) → j < length boxes → place_at (by_sixteens boxes) (j / 16) (j % 16) ≡ place_for j (slice_index_or boxes j None)
  pub inner : (n i : ℕ) → 0 < level_at (by_sixteens boxes) n → i < length (places_at (by_sixteens boxes) n) → NamesBelow (by_sixteens boxes) n i
