-- A box moved along the axes.
use Rattle.std.specs.Prelude.{ℤ, ◌+ℤ◌, Option}
use Rattle.geometry.specs.Bounds.{span_at, bounds_at}
use Rattle.geometry.specs.Ends.{low_ends, high_ends}
use Rattle.geometry.specs.declared.bounds.Point.{Point}
use Rattle.geometry.specs.declared.bounds.Span.{Span}
use Rattle.geometry.specs.declared.bounds.Bounds.{Bounds}

abbrev pub moved_point : Point → Point → Point
moved_point p by =
    record { easting = p.easting +ℤ by.easting; northing = p.northing +ℤ by.northing; level = p.level +ℤ by.level }

-- both ends moved, where there is such a span
abbrev pub moved_span : Span → ℤ → Option Span
moved_span s by = span_at (s.low +ℤ by) (s.high +ℤ by)

-- both corners moved, where there is such a box
abbrev pub moved_bounds : Bounds → Point → Option Bounds
moved_bounds b by = bounds_at (moved_point (low_ends b) by) (moved_point (high_ends b) by)
