-- A number in range fits 32 bits, so a sum that does not fit is out of range.
use Rattle.std.proofs.Common.{ℤ, pos, negsuc, ◌≤ℤ◌, arith, w32, SFits}
use Rattle.std.proofs.lemmas.Int.{ints}
use Rattle.geometry.specs.Range.{least_coordinate, most_coordinate}

pub in_range_fits : (z : ℤ) → least_coordinate ≤ℤ z → z ≤ℤ most_coordinate → SFits w32 z
in_range_fits (pos n) p q = record { sfits = omega (arith, ints) }
in_range_fits (negsuc n) p q = record { sfits = omega (arith, ints) }
