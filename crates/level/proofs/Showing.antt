-- The text of a level is ASCII, and so UTF-8.
use Rattle.std.proofs.Common.{ℕ, suc, ◌+◌, ◌/◌, ◌%◌, ◌^◌, ◌<◌, [], ◌∷◌, ℤ, pos, negsuc, decimal, arith, w32, SFits, lit<}
use Rattle.std.specs.Str.{IsAscii, IsUtf8}
use Rattle.std.proofs.lemmas.Str.{IsAscii-append, IsUtf8-from_ascii}
use Rattle.std.proofs.lemmas.Str.Ascii.{IsAscii-nil, IsAscii-cons}
use Rattle.std.proofs.lemmas.Fmt.{IsAscii-decimal}
use Rattle.std.proofs.lemmas.Int.{ints}
use Rattle.level.specs.Write.{hundredths_text, level_text}

hundredths_ascii : (n : ℕ) → n < 2 ^ 64 → IsAscii (hundredths_text n)
hundredths_ascii n h =
    let tens : 48 + n / 10 % 10 < 128 = omega arith in
    let ones : 48 + n % 10 < 128 = omega arith in
    let last = IsAscii-cons (48 + n % 10) [] ones IsAscii-nil in
    let two = IsAscii-cons (48 + n / 10 % 10) ((48 + n % 10) ∷ []) tens last in
    let three = IsAscii-cons 46 ((48 + n / 10 % 10) ∷ (48 + n % 10) ∷ []) (lit< tt) two in
    IsAscii-append (decimal (n / 100)) (46 ∷ (48 + n / 10 % 10) ∷ (48 + n % 10) ∷ []) (IsAscii-decimal (n / 100) (omega arith)) three

ascii : (x : ℤ) → SFits w32 x → IsAscii (level_text x)
ascii (pos n) h = hundredths_ascii n (omega (arith, ints))
ascii (negsuc n) h = IsAscii-cons 45 (hundredths_text (suc n)) (lit< tt) (hundredths_ascii (suc n) (omega (arith, ints)))

pub utf8 : (x : ℤ) → SFits w32 x → IsUtf8 (level_text x)
utf8 x h = IsUtf8-from_ascii (level_text x) (ascii x h)
