-- The text of a level, and what writing it does.
use Rattle.std.specs.Prelude.{ℕ, suc, ◌+◌, ◌/◌, ◌%◌, cond, List, [], ◌∷◌, ◌++◌, length, drop, ℤ, pos, negsuc, Ok, Err, decimal, Result, nat_le}
use Rattle.refusal.specs.Told.{Told, plain}
use Rattle.level.specs.Range.{is_level}

-- the whole feet without leading zeros, a point, two digits
abbrev pub hundredths_text : ℕ → List ℕ
hundredths_text n = decimal (n / 100) ++ (46 ∷ (48 + n / 10 % 10) ∷ (48 + n % 10) ∷ [])

-- with a minus in front of a level below zero
abbrev pub level_text : ℤ → List ℕ
level_text (pos n) = hundredths_text n
level_text (negsuc n) = 45 ∷ hundredths_text (suc n)

-- what writing answers where there are so many bytes: the length, or first 5, then 21
abbrev pub writes : ℤ → ℕ → Result ℕ Told
writes x room =
    cond (is_level x)
    (cond (nat_le (length (level_text x)) room) (Ok (length (level_text x))) (Err (plain 21)))
    (Err (plain 5))

-- the bytes afterwards: a text that was written, and what stood behind it
abbrev pub leaves : Result ℕ Told → List ℕ → List ℕ → List ℕ
leaves (Ok n) text bytes = text ++ drop n bytes
leaves (Err refusal) text bytes = bytes

-- what writing leaves of the bytes
abbrev pub written : ℤ → List ℕ → List ℕ
written x bytes = leaves (writes x (length bytes)) (level_text x) bytes
