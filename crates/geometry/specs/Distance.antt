-- The three measures: how near a box is to a query box. Each puts the gaps on the three axes together in its own way.
use Rattle.std.specs.Prelude.{ℕ, ◌+◌, ◌*◌, max}
use Rattle.geometry.specs.Gap.{gap}
use Rattle.geometry.specs.declared.bounds.Bounds.{Bounds}

-- how three gaps, one an axis, are put together
abbrev pub Way : Type 0
Way = ℕ → ℕ → ℕ → ℕ

-- left squared, so that it stays a whole number
abbrev pub sum_of_squares : Way
sum_of_squares a b c = a * a + b * b + c * c

abbrev pub sum_of : Way
sum_of a b c = a + b + c

abbrev pub greatest_of : Way
greatest_of a b c = max (max a b) c

unfoldable pub box_distance : Way → Bounds → Bounds → ℕ
box_distance f q b = f (gap q.easting b.easting) (gap q.northing b.northing) (gap q.level b.level)

abbrev pub euclidean : Bounds → Bounds → ℕ
euclidean = box_distance sum_of_squares

abbrev pub manhattan : Bounds → Bounds → ℕ
manhattan = box_distance sum_of

abbrev pub chessboard : Bounds → Bounds → ℕ
chessboard = box_distance greatest_of
