-- The answer of the check: the first fault, lowest node first, then lowest place, or the number of picks named.
use Rattle.std.specs.Prelude.{ℕ, not, ◌&&◌, [], ◌∷◌, Some, Ok, Err, Option, Result, ◌==◌, nat_lt}
use Rattle.refusal.specs.Told.{Told, plain, at_node, at_place}
use Rattle.book.specs.Model.{Model, node_count, place_count}
use Rattle.book_check.specs.Below.{first_of, first_below}
use Rattle.book_check.specs.Targets.{root_of}
use Rattle.book.specs.Totals.{total_places}
use Rattle.book_check.specs.Names.{named_before, is_named, picks_named}
use Rattle.book_check.specs.Sound.{when, unless, sound_target}
use Rattle.book_check.specs.declared.target.Target.{Target}
use Rattle.book_check.specs.declared.target.Target.TheVariants.{Child}

-- more places than a browse can let wait
abbrev pub crowded : Model → Option Told
crowded m = when (nat_lt 2048 (total_places m)) (plain 12)

-- a node other than the root without places
abbrev pub barren : Model → ℕ → Option Told
barren m n = when (nat_lt n (root_of m) && place_count m n == 0) (at_node 13 n)

-- of a place that is sound by itself: its target was named before
abbrev pub twice : Model → ℕ → ℕ → Result Target Told → Option Told
twice m n i (Err fault) = Some fault
twice m n i (Ok t) = when (named_before m n i t) (at_place 18 n i)

-- 14 to 18
unfoldable pub place_fault : Model → ℕ → ℕ → Option Told
place_fault m n i = twice m n i (sound_target m n i)

-- 13, then the places
unfoldable pub node_fault : Model → ℕ → Option Told
node_fault m n = first_of (barren m n ∷ first_below (place_fault m n) (place_count m n) ∷ [])

-- no place names the node
abbrev pub unnamed : Model → ℕ → Option Told
unnamed m n = when (not (is_named m (Child n))) (at_node 19 n)

-- 12, then the nodes, then 19
unfoldable pub tree_fault : Model → Option Told
tree_fault m = first_of (crowded m ∷ first_below (node_fault m) (node_count m) ∷ first_below (unnamed m) (root_of m) ∷ [])

-- the answer of the check
unfoldable pub checked : Model → Result ℕ Told
checked m = unless (tree_fault m) (picks_named m)
