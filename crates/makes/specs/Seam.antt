-- A joined book as a join holds it: its sizes and its root as they were measured, the rest asked of its two books.
use Rattle.std.specs.Prelude.{ℕ, ◌+◌, ◌-◌, cond, List, [], ◌∷◌, ◌++◌, map, Some, None, Option, ◌==◌, nat_lt, slice_index_or}
use Rattle.std.specs.List.{range_with_len}
use Rattle.std.specs.Option.{unwrap_or}
use Rattle.book.specs.Model.{Node, Model, no_node, node_of, kind_of, empty_book}
use Rattle.book.specs.declared.kind.Kind.{Kind}
use Rattle.book.specs.declared.kind.Kind.TheVariants.{Marker}
use Rattle.book.specs.declared.place.Entry.{Entry}
use Rattle.makes.specs.Join.{nothing, renumbered_node}
use Rattle.makes.specs.Places.{place_for}
use Rattle.makes.specs.declared.seam.Seam.{Seam}
use Rattle.makes.specs.declared.seam.Part.{Part}
use Rattle.makes.specs.declared.seam.Part.TheVariants.{Left, Right, Root, Outside}

-- where a node comes from
abbrev pub part_of : Seam → ℕ → Part
part_of s n =
    cond (nat_lt n s.left.nodes) (Left n)
    (cond (nat_lt (n - s.left.nodes) s.right.nodes) (Right (n - s.left.nodes))
    (cond (n - s.left.nodes == s.right.nodes) Root Outside))

-- the new root's two places, and nothing past them
abbrev pub root_places : Seam → List (Option Entry)
root_places s =
    place_for (s.left.nodes - 1) s.left_box ∷ place_for (s.left.nodes + s.right.nodes - 1) s.right_box ∷ []

abbrev pub root_place : Seam → ℕ → Option Entry
root_place s i = slice_index_or (root_places s) i None

abbrev pub seam_root : Seam → Node
seam_root s =
    record { level = s.level; places = root_places s }

-- the node that comes from there
abbrev pub part_node : Seam → Model → Model → Part → Node
part_node s l r (Left k) = renumbered_node s.left nothing (node_of l k)
part_node s l r (Right k) = renumbered_node s.right s.left (node_of r k)
part_node s l r Root = seam_root s
part_node s l r Outside = no_node

-- every pick of a book has a kind, so the other is never wanted
abbrev pub known : Option Kind → Kind
known kind = unwrap_or kind Marker

-- the book of a join with this seam over two books; without a seam the empty one
unfoldable pub along : Option Seam → Model → Model → Model
along (Some s) l r =
    record {
      nodes =
          map (λ n. part_node s l r (Left n)) (range_with_len 0 s.left.nodes)
          ++ (map (λ n. part_node s l r (Right n)) (range_with_len 0 s.right.nodes) ++ (seam_root s ∷ []));
      kinds = map (λ p. known (kind_of l p)) (range_with_len 0 s.left.picks) ++ map (λ p. known (kind_of r p)) (range_with_len 0 s.right.picks);
    }
along None l r = empty_book
