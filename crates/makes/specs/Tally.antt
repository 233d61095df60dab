-- A casing string as a book.
use Rattle.std.specs.Prelude.{ℕ, ◌-◌, ◌*◌, Bool, ◌&&◌, List, map, replicate, pos, ◌-ℤ◌, Option, nat_le}
use Rattle.std.specs.List.{range_with_len}
use Rattle.book.specs.Model.{Model}
use Rattle.book.specs.declared.kind.Kind.TheVariants.{Collar}
use Rattle.geometry.specs.Bounds.{bounds_at, point_in_range}
use Rattle.geometry.specs.declared.bounds.Bounds.{Bounds}
use Rattle.geometry.specs.declared.bounds.Point.{Point}
use Rattle.makes.specs.Sixteens.{by_sixteens}

-- 1 to 1,000 joints, each of one length from 1 to 5,000
abbrev pub sized : ℕ → ℕ → Bool
sized joints long = (nat_le 1 joints && nat_le joints 1000) && (nat_le 1 long && nat_le long 5000)

-- the collar at the upper end of joint j, counted from 0
abbrev pub collar_at : Point → ℕ → ℕ → Point
collar_at top long j = record { easting = top.easting; northing = top.northing; level = top.level -ℤ pos (j * long) }

-- the top and the lowest collar are in range
abbrev pub hangs : Point → ℕ → ℕ → Bool
hangs top joints long = point_in_range top && point_in_range (collar_at top long (joints - 1))

abbrev pub collar_boxes : Point → ℕ → ℕ → List (Option Bounds)
collar_boxes top joints long = map (λ j. bounds_at (collar_at top long j) (collar_at top long j)) (range_with_len 0 joints)

-- pick j is collar j
abbrev pub tallied : Point → ℕ → ℕ → Model
tallied top joints long = record { nodes = by_sixteens (collar_boxes top joints long); kinds = replicate joints Collar }
