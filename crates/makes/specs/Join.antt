-- Two books in one: the left nodes, the right nodes, and a root above both.
use Rattle.std.specs.Prelude.{ℕ, ◌+◌, ◌-◌, Bool, cond, not, ◌||◌, List, [], ◌∷◌, ◌++◌, map, length, Ok, Err, Option, Result, ◌==◌, nat_lt, Some, None}
use Rattle.refusal.specs.Told.{Told, plain}
use Rattle.book.specs.Model.{Node, Model, node_count, pick_limit, node_of, empty_book}
use Rattle.book.specs.declared.place.Entry.{Entry}
use Rattle.geometry.specs.declared.bounds.Bounds.{Bounds}
use Rattle.makes.specs.Places.{place_for}
use Rattle.makes.specs.Smallest.{smallest, box_of}
use Rattle.makes.specs.declared.seam.Sizes.{Sizes}

abbrev pub sizes_of : Model → Sizes
sizes_of m = record { nodes = node_count m; picks = pick_limit m }

-- what stands before the left book
abbrev pub nothing : Sizes
nothing = record { nodes = 0; picks = 0 }

-- how many there are of what a node of this level names: picks in a leaf, nodes above that
abbrev pub count_at : Sizes → ℕ → ℕ
count_at s level = cond (level == 0) s.picks s.nodes

-- a place of a book of its own sizes, behind what stands before it; a target outside its own book is lost
abbrev pub renumbered : Sizes → Sizes → ℕ → Option Entry → Option Entry
renumbered own before level (Some e) =
    cond (nat_lt e.target (count_at own level))
    (Some (record { bounds = e.bounds; target = count_at before level + e.target }))
    None
renumbered own before level None = None

abbrev pub renumbered_node : Sizes → Sizes → Node → Node
renumbered_node own before n =
    record { level = n.level; places = map (renumbered own before n.level) n.places }

-- the last node
abbrev pub root_node : Model → Node
root_node m = node_of m (node_count m - 1)

-- the boxes of the root's places, those without a target in the book left out
abbrev pub root_boxes : Model → List (Option Bounds)
root_boxes m = map box_of (renumbered_node (sizes_of m) nothing (root_node m)).places

-- the smallest box around the entries left in the root, if one is left
abbrev pub root_box : Model → Option Bounds
root_box m = smallest (root_boxes m)

-- one level above the old roots, which it names
abbrev pub new_root : Model → Model → Node
new_root l r =
    record {
      level = (root_node l).level + 1;
      places = place_for (node_count l - 1) (root_box l) ∷ place_for (node_count l + node_count r - 1) (root_box r) ∷ [];
    }

-- of two books that can be joined
abbrev pub both_books : Model → Model → Model
both_books l r =
    record {
      nodes =
          map (renumbered_node (sizes_of l) nothing) l.nodes
          ++ (map (renumbered_node (sizes_of r) (sizes_of l)) r.nodes ++ (new_root l r ∷ []));
      kinds = l.kinds ++ r.kinds;
    }

abbrev pub root_empty : Model → Bool
root_empty m = length (root_node m).places == 0

-- the root levels differ, or leave no level for the new root
abbrev pub roots_apart : Model → Model → Bool
roots_apart l r = not ((root_node l).level == (root_node r).level) || (root_node l).level == 7

-- whether two books can be joined, and the number that refuses them
abbrev pub joinable : Model → Model → Result (Unit {0}) Told
joinable l r =
    cond (nat_lt 512 (node_count l + node_count r + 1)) (Err (plain 8))
    (cond (nat_lt 2048 (pick_limit l + pick_limit r)) (Err (plain 9))
    (cond (roots_apart l r) (Err (plain 10))
    (cond (root_empty l || root_empty r) (Err (plain 11)) (Ok tt))))

abbrev or_empty : Result (Unit {0}) Told → Model → Model
or_empty (Ok fine) m = m
or_empty (Err told) m = empty_book

-- the join of two books, empty where they cannot be joined
unfoldable pub joined : Model → Model → Model
joined l r = or_empty (joinable l r) (both_books l r)
