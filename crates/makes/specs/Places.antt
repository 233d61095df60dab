-- Places from boxes that may be missing.
use Rattle.std.specs.Prelude.{ℕ, Some, None, Option}
use Rattle.book.specs.declared.place.Entry.{Entry}
use Rattle.geometry.specs.declared.bounds.Bounds.{Bounds}

-- the place that names a target by its box, spoilt where there is no box
abbrev pub place_for : ℕ → Option Bounds → Option Entry
place_for target (Some b) = Some (record { bounds = b; target = target })
place_for target None = None
