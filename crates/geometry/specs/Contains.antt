-- Whether a box contains another, as a test. Ends are included.
use Rattle.std.specs.Prelude.{Bool, ◌&&◌, int_le}
use Rattle.geometry.specs.declared.bounds.Span.{Span}
use Rattle.geometry.specs.declared.bounds.Bounds.{Bounds}

abbrev pub covers : Span → Span → Bool
covers outer inner = int_le outer.low inner.low && int_le inner.high outer.high

unfoldable pub contains : Bounds → Bounds → Bool
contains outer inner =
    covers outer.easting inner.easting && (covers outer.northing inner.northing && covers outer.level inner.level)
