-- How far two boxes are apart, said apart from the definitions of `geometry`.
use Rattle.std.specs.Prelude.{ℕ, ◌+◌, ◌^◌, max, ◌-ℤ◌, cond, int_lt, unsigned_abs}
use Rattle.geometry.specs.declared.bounds.Span.{Span}
use Rattle.geometry.specs.declared.bounds.Bounds.{Bounds}
use Rattle.geometry.specs.declared.choice.Choice.{Choice}
use Rattle.geometry.specs.declared.choice.Choice.TheVariants.{Euclidean, Manhattan, Chessboard}

-- from the end of the lower stretch to the start of the higher, where neither reaches the other
abbrev pub apart : Span → Span → ℕ
apart a b = cond (int_lt a.high b.low) (unsigned_abs (b.low -ℤ a.high)) (cond (int_lt b.high a.low) (unsigned_abs (a.low -ℤ b.high)) 0)

abbrev pub by_axes : Choice → ℕ → ℕ → ℕ → ℕ
by_axes Euclidean x y z = x ^ 2 + y ^ 2 + z ^ 2
by_axes Manhattan x y z = x + y + z
by_axes Chessboard x y z = max x (max y z)

abbrev pub plain_distance : Choice → Bounds → Bounds → ℕ
plain_distance choice a b = by_axes choice (apart a.easting b.easting) (apart a.northing b.northing) (apart a.level b.level)
