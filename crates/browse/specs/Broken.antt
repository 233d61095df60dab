-- Which nodes a browse cannot open.
use Rattle.std.specs.Prelude.{ℕ, ◌+◌, ◌-◌, Bool, true, false, cond, ◌&&◌, List, [], ◌∷◌, length, ◌==◌, nat_le, nat_lt, Some, None, Option}
use Rattle.book.specs.Model.{Model, node_count, pick_limit, level_of, places_of, place_count}
use Rattle.book.specs.declared.place.Entry.{Entry}
use Rattle.search.specs.Search.{Standing}
use Rattle.browse.specs.Thing.{Thing}
use Rattle.browse.specs.Tree.{Far}

-- in a leaf a pick below the limit; above that a node other than the root, one level lower
abbrev pub right_target : Model → ℕ → ℕ → Bool
right_target m level t =
    cond (level == 0) (nat_lt t (pick_limit m)) (nat_lt t (node_count m - 1) && level_of m t + 1 == level)

-- a place of a node of this level at this distance: an entry, no nearer than the node, with a right target
abbrev pub sound_place : Model → Far → ℕ → ℕ → Option Entry → Bool
sound_place m far level d None = false
sound_place m far level d (Some e) = nat_le d (far e.bounds) && right_target m level e.target

abbrev pub sound_places : Model → Far → ℕ → ℕ → List (Option Entry) → Bool
sound_places m far level d [] = true
sound_places m far level d (p ∷ ps) = sound_place m far level d p && sound_places m far level d ps

-- Whether x, the node that waits first, can be opened: not all nodes are opened already, the others waiting and its
-- entries find room in 2,048 places (x itself still waits, hence 2,049), and each of its places is sound.
unfoldable pub can_open : Model → Far → Standing Thing → Thing → Bool
can_open m far s x =
    nat_lt s.opened (node_count m)
    && (nat_le (length s.waiting + place_count m x.number) 2049
    && sound_places m far (level_of m x.number) x.distance (places_of m x.number))
