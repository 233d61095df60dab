-- A book as a value, and the questions as definitions over it.
use Rattle.std.specs.Prelude.{ℕ, ◌<◌, ◌≤◌, List, [], ◌∷◌, map, length, Some, None, Option, slice_index_or}
use Rattle.book.specs.declared.kind.Kind.{Kind}
use Rattle.book.specs.declared.place.Entry.{Entry}

-- level 0 is a leaf, whose places name picks; above that they name nodes
pub record Node : Type 0 where
  pub level : ℕ
  pub places : List (Option Entry)

-- the nodes, of which the last is the root, and the kind of each pick
pub record Model : Type 0 where
  pub nodes : List Node
  pub kinds : List Kind

-- what stands outside the book
abbrev pub no_node : Node
no_node = record { level = 0; places = [] }

abbrev pub node_count : Model → ℕ
node_count m = length m.nodes

abbrev pub pick_limit : Model → ℕ
pick_limit m = length m.kinds

abbrev pub node_of : Model → ℕ → Node
node_of m n = slice_index_or m.nodes n no_node

abbrev pub level_of : Model → ℕ → ℕ
level_of m n = (node_of m n).level

abbrev pub places_of : Model → ℕ → List (Option Entry)
places_of m n = (node_of m n).places

abbrev pub place_count : Model → ℕ → ℕ
place_count m n = length (places_of m n)

abbrev pub place_of : Model → ℕ → ℕ → Option Entry
place_of m n i = slice_index_or (places_of m n) i None

abbrev pub kind_of : Model → ℕ → Option Kind
kind_of m p = slice_index_or (map Some m.kinds) p None

-- a target is a number of 16 bits
abbrev target_fits : Option Entry → Type 0
target_fits (Some e) = e.target < 65536
target_fits None = Unit {0}

-- what every book keeps, broken ones too
pub record BookShape (m : Model) : Type 0 where
  pub some_node : 0 < node_count m
  pub nodes_most : node_count m ≤ 512
  pub picks_most : pick_limit m ≤ 2048
  pub levels_most : (n : ℕ) → level_of m n ≤ 7
  pub places_most : (n : ℕ) → place_count m n ≤ 16
  pub targets_fit : (n i : ℕ) → target_fits (place_of m n i)

-- the book that a caller holds at first
abbrev pub empty_book : Model
empty_book = record { nodes = no_node ∷ []; kinds = [] }
