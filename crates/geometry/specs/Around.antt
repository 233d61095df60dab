-- The smallest box around two.
use Rattle.std.specs.Int.{int_min, int_max}
use Rattle.std.specs.Prelude.{Option}
use Rattle.geometry.specs.Bounds.{span_at, bounds_at}
use Rattle.geometry.specs.Ends.{low_ends, high_ends}
use Rattle.geometry.specs.Within.{Inside, Within}
use Rattle.geometry.specs.declared.bounds.Point.{Point}
use Rattle.geometry.specs.declared.bounds.Span.{Span}
use Rattle.geometry.specs.declared.bounds.Bounds.{Bounds}

-- the lower of the two numbers on each axis
abbrev pub lowest : Point → Point → Point
lowest p q =
    record { easting = int_min p.easting q.easting; northing = int_min p.northing q.northing; level = int_min p.level q.level }

-- the higher one
abbrev pub highest : Point → Point → Point
highest p q =
    record { easting = int_max p.easting q.easting; northing = int_max p.northing q.northing; level = int_max p.level q.level }

-- from the lower of the two low ends to the higher of the two high ends
abbrev pub span_around : Span → Span → Option Span
span_around s t = span_at (int_min s.low t.low) (int_max s.high t.high)

abbrev pub bounds_around : Bounds → Bounds → Option Bounds
bounds_around a b = bounds_at (lowest (low_ends a) (low_ends b)) (highest (high_ends a) (high_ends b))

-- r holds both, and lies in whatever holds both
pub record SmallestSpan (s t r : Span) : Type 0 where
  pub one : Inside s r
  pub other : Inside t r
  pub least : (u : Span) → Inside s u → Inside t u → Inside r u

pub record SmallestBox (a b r : Bounds) : Type 0 where
  pub one : Within a r
  pub other : Within b r
  pub least : (c : Bounds) → Within a c → Within b c → Within r c
