-- What a measure of boxes means: the least distance between a point of the one and a point of the other.
-- Points have whole coordinates. Nothing is lost by that: the nearest two points of two boxes lie at ends or at a
-- shared coordinate, which are whole numbers.
use Rattle.std.specs.Prelude.{◌≡◌, ℕ, ◌+◌, ◌≤◌, ℤ}
use Rattle.geometry.specs.Gap.{above}
use Rattle.geometry.specs.Distance.{Way}
use Rattle.geometry.specs.Within.{In}
use Rattle.geometry.specs.declared.bounds.Point.{Point}
use Rattle.geometry.specs.declared.bounds.Bounds.{Bounds}

-- how far apart two numbers are
abbrev pub apart : ℤ → ℤ → ℕ
apart a b = above a b + above b a

abbrev pub point_distance : Way → Point → Point → ℕ
point_distance f p r =
    f (apart p.easting r.easting) (apart p.northing r.northing) (apart p.level r.level)

-- no point of q and point of b are nearer than d, and two are d apart
pub record Least (f : Way) (q b : Bounds) (d : ℕ) : Type 0 where
  pub no_nearer : (p r : Point) → In p q → In r b → d ≤ point_distance f p r
  pub attained : (p : Point) × (r : Point) × In p q × In r b × (point_distance f p r ≡ d)
