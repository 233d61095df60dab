-- A box within another, and a point in a box. Ends are included.
use Rattle.std.specs.Prelude.{ℤ, ◌≤ℤ◌}
use Rattle.geometry.specs.declared.bounds.Point.{Point}
use Rattle.geometry.specs.declared.bounds.Span.{Span}
use Rattle.geometry.specs.declared.bounds.Bounds.{Bounds}

abbrev pub Inside : Span → Span → Type 0
Inside inner outer = (outer.low ≤ℤ inner.low) × (inner.high ≤ℤ outer.high)

abbrev pub Within : Bounds → Bounds → Type 0
Within inner outer =
    Inside inner.easting outer.easting × Inside inner.northing outer.northing × Inside inner.level outer.level

abbrev pub On : ℤ → Span → Type 0
On x s = (s.low ≤ℤ x) × (x ≤ℤ s.high)

abbrev pub In : Point → Bounds → Type 0
In p b = On p.easting b.easting × On p.northing b.northing × On p.level b.level
