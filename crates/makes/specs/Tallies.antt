-- Which tallies there are. Names the struct, which cites the tests of the file beside this one.
use Rattle.std.specs.Prelude.{ℕ, Ok, Result}
use Rattle.refusal.specs.Told.{Told}
use Rattle.geometry.specs.declared.bounds.Point.{Point}
use Rattle.makes.specs.Tally.{sized, hangs}
use Rattle.makes.specs.Tested.{tested}
use Rattle.makes.specs.declared.tally.Tally.{Tally}

-- refused by 24 for its joints or its length, then by 5 for a coordinate
unfoldable pub tally_of : Point → ℕ → ℕ → Result Tally Told
tally_of top joints long =
    tested 24 (sized joints long)
    (λ s. tested 5 (hangs top joints long) (λ h. Ok (record { top = top; joints = record { count = joints; length = long; sizes = s }; hung = h })))
