-- The test says exactly that the one box lies within the other.
use Rattle.std.proofs.Common.{ℤ, ◌≤ℤ◌, Decides, arith}
use lib.Signed.{le_z}
use Rattle.std.proofs.lemmas.Int.{ints}
use Rattle.std.proofs.lemmas.Bool.Decides.{Decides-and, Decides-like}
use Rattle.geometry.specs.Contains.{covers, contains}
use Rattle.geometry.specs.Within.{Inside, Within}
use Rattle.geometry.specs.declared.bounds.Span.{Span}
use Rattle.geometry.specs.declared.bounds.Bounds.{Bounds}

decides_le : (a b : ℤ) → Decides (le_z a b) (a ≤ℤ b)
decides_le a b = (λ e. grind (arith, ints), λ h. grind (arith, ints))

pub covers_inside : (outer inner : Span) → Decides (covers outer inner) (Inside inner outer)
covers_inside outer inner =
    Decides-and _ _ (decides_le outer.low inner.low) (decides_le inner.high outer.high)

pub contains_within : (outer inner : Bounds) → Decides (contains outer inner) (Within inner outer)
unfolding contains
contains_within outer inner =
    Decides-like _ (λ h. (h.0, h.1.0, h.1.1)) (λ h. (h.0, (h.1, h.2)))
    (Decides-and _ _ (covers_inside outer.easting inner.easting)
    (Decides-and _ _ (covers_inside outer.northing inner.northing) (covers_inside outer.level inner.level)))
