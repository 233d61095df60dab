-- A limit, typed in digits.
use Rattle.std.specs.Prelude.{ℕ, ◌+◌, ◌-◌, ◌*◌, cond, ◌&&◌, List, [], ◌∷◌, length, Some, None, Option, nat_le, nat_lt}
use Rattle.std.specs.Char.{is_ascii_digit}

-- the number so far with these digits behind it; none if one of them is no digit
abbrev pub digits_from : ℕ → List ℕ → Option ℕ
digits_from n [] = Some n
digits_from n (b ∷ bs) = cond (is_ascii_digit b) (digits_from (n * 10 + (b - 48)) bs) None

-- 1 to 16 digits; leading zeros are fine
unfoldable pub limit_of : List ℕ → Option ℕ
limit_of text = cond (nat_lt 0 (length text) && nat_le (length text) 16) (digits_from 0 text) None
