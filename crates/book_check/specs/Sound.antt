-- What can be wrong with one place by itself.
use Rattle.std.specs.Prelude.{ℕ, Bool, false, cond, not, [], ◌∷◌, Some, None, Ok, Err, Option, Result}
use Rattle.refusal.specs.Told.{Told, at_place}
use Rattle.geometry.specs.Contains.{contains}
use Rattle.geometry.specs.declared.bounds.Bounds.{Bounds}
use Rattle.book.specs.Model.{Model, level_of, place_count, place_of}
use Rattle.book.specs.declared.place.Entry.{Entry}
use Rattle.book_check.specs.Below.{first_of, some_below}
use Rattle.book_check.specs.Targets.{target_of, in_book, one_lower}
use Rattle.book_check.specs.declared.target.Target.{Target}
use Rattle.book_check.specs.declared.target.Target.TheVariants.{Pick, Child}

-- the fault, where the test holds
abbrev pub when : Bool → Told → Option Told
when wrong fault = cond wrong (Some fault) None

-- the answer, unless there is a fault
abbrev pub unless : {A : Type 0} → Option Told → A → Result A Told
unless (Some fault) a = Err fault
unless None a = Ok a

-- a place whose entry lies outside the box
abbrev pub outside : Bounds → Option Entry → Bool
outside b None = false
outside b (Some e) = not (contains b e.bounds)

-- whether an entry of node k lies outside the box; spoilt places are passed over
unfoldable pub sticks_out : Model → Bounds → ℕ → Bool
sticks_out m b k = some_below (λ j. outside b (place_of m k j)) (place_count m k)

-- whether an entry of the child lies outside the box; a pick has no entries
abbrev pub leaves_box : Model → Bounds → Target → Bool
leaves_box m b (Pick p) = false
leaves_box m b (Child k) = sticks_out m b k

-- 15 to 17
abbrev pub entry_fault : Model → ℕ → ℕ → Bounds → Target → Option Told
entry_fault m n i b t =
    first_of (
    when (not (in_book m t)) (at_place 15 n i)
    ∷ when (not (one_lower m (level_of m n) t)) (at_place 16 n i)
    ∷ when (leaves_box m b t) (at_place 17 n i)
    ∷ [])

-- place i of node n holds this
abbrev pub sound_in : Model → ℕ → ℕ → Option Entry → Result Target Told
sound_in m n i None = Err (at_place 14 n i)
sound_in m n i (Some e) = unless (entry_fault m n i e.bounds (target_of m n e)) (target_of m n e)

-- the target of place i of node n, or the first of 14 to 17
unfoldable pub sound_target : Model → ℕ → ℕ → Result Target Told
sound_target m n i = sound_in m n i (place_of m n i)
