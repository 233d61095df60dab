-- Every tree by sixteens over boxes that are all there is accepted, and so is every casing string.
use Rattle.std.specs.Prelude.{◌≡◌, ℕ, ◌<◌, ◌≤◌, true, List, length, Some, None, Option, slice_index_or}
use Rattle.book.specs.declared.kind.Kind.{Kind}
use Rattle.geometry.specs.declared.bounds.Bounds.{Bounds}
use Rattle.geometry.specs.declared.bounds.Point.{Point}
use Rattle.book_check.specs.Accepted.{Accepted}
use Rattle.makes.specs.Sixteens.{by_sixteens}
use Rattle.makes.specs.Tally.{sized, hangs, tallied}

-- no box is missing
abbrev pub Full : List (Option Bounds) → Type 0
Full boxes = (j : ℕ) → j < length boxes → (b : Bounds) × (slice_index_or boxes j None ≡ Some b)

-- over 1 to 1,000 boxes, with a kind for each
abbrev pub SixteensAccepted : Type 0
SixteensAccepted =
    (boxes : List (Option Bounds)) (kinds : List Kind) → 0 < length boxes → length boxes ≤ 1000 → length kinds ≡ length boxes →
    Full boxes → Accepted (record { nodes = by_sixteens boxes; kinds = kinds })

abbrev pub TalliesAccepted : Type 0
TalliesAccepted = (top : Point) (joints long : ℕ) → sized joints long ≡ true → hangs top joints long ≡ true → Accepted (tallied top joints long)
