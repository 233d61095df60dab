-- The measure that is chosen.
use Rattle.std.specs.Prelude.{ℕ}
use Rattle.geometry.specs.Distance.{Way, sum_of_squares, sum_of, greatest_of, box_distance}
use Rattle.geometry.specs.declared.bounds.Bounds.{Bounds}
use Rattle.geometry.specs.declared.choice.Choice.{Choice}
use Rattle.geometry.specs.declared.choice.Choice.TheVariants.{Euclidean, Manhattan, Chessboard}

-- how it puts three gaps together
abbrev pub way_of : Choice → Way
way_of Euclidean = sum_of_squares
way_of Manhattan = sum_of
way_of Chessboard = greatest_of

abbrev pub chosen : Choice → Bounds → Bounds → ℕ
chosen c = box_distance (way_of c)
