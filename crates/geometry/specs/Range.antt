-- Which numbers are coordinates. Names no struct of the code, so that a struct's ghost field may cite it.
use Rattle.std.specs.Prelude.{ℕ, Bool, ◌&&◌, ℤ, pos, negsuc, int_le}

-- -10,000,000
abbrev pub least_coordinate : ℤ
least_coordinate = negsuc 9999999

abbrev pub most_coordinate : ℤ
most_coordinate = pos 10000000

abbrev pub in_range : ℤ → Bool
in_range x = int_le least_coordinate x && int_le x most_coordinate

-- how far the most coordinate lies above the least
abbrev pub widest : ℕ
widest = 20000000
