-- The range of a level, in hundredths of a foot. All bounds on levels come from these two.
use Rattle.std.specs.Prelude.{Bool, ◌&&◌, ℤ, pos, negsuc, int_le}

-- -10,000,000
abbrev pub level_least : ℤ
level_least = negsuc 9_999_999

abbrev pub level_most : ℤ
level_most = pos 10_000_000

abbrev pub is_level : ℤ → Bool
is_level x = int_le level_least x && int_le x level_most
