-- Digits read one after another, and how large the number so far can be.
use Rattle.std.proofs.Common.{◌≡◌, ℕ, ◌-◌, ◌*◌, ◌+◌, ◌^◌, ◌<◌, ◌≤◌, Bool, true, false, cond, ◌&&◌, ltb, leb, List, length, get_or, drop, Some, None, Option, refl, sym, ap, ◌∙◌, arith, lit<}
use Rattle.std.specs.Char.{is_ascii_digit}
use native.Mathlib.Nat.{pow-le-pow_right}
use Rattle.std.proofs.lemmas.List.{at_drop_more, drop_all}
use Rattle.std.proofs.lemmas.Bool.Decides.{nat_tests}
use Rattle.console.specs.Limit.{digits_from, limit_of}

-- sixteen digits and some more fit 64 bits
pub small : (i n : ℕ) → i < 19 → n < 10 ^ i → n < 10 ^ 18
small i n h k = let m : 10 ^ i ≤ 10 ^ 18 = pow-le-pow_right {n = 10} (lit< tt) {i = i} {j = 18} (omega arith) in omega arith

in_length : (bs : List ℕ) → 0 < length bs → length bs ≤ 16 → (ltb 0 (length bs) && leb (length bs) 16) ≡ true
in_length bs h k = grind (arith, nat_tests)

pub all_read : (bs : List ℕ) (i n : ℕ) → length bs ≤ i → 0 < length bs → length bs ≤ 16 → digits_from n (drop i bs) ≡ digits_from 0 bs → Some n ≡ limit_of bs
unfolding limit_of
all_read bs i n past h k e = sym (ap (digits_from n) (drop_all i bs past)) ∙ e ∙ sym (ap (λ v. cond v (digits_from 0 bs) None) (in_length bs h k))

none_both : (t : Bool) (x : Option ℕ) → None ≡ x → None ≡ cond t x None
none_both true x e = e
none_both false x e = refl

-- a byte that is no digit
pub stopped : (bs : List ℕ) (i n : ℕ) → i < length bs → false ≡ is_ascii_digit (get_or bs i 0) → digits_from n (drop i bs) ≡ digits_from 0 bs → None ≡ limit_of bs
unfolding limit_of
stopped bs i n h wrong so_far =
    none_both (ltb 0 (length bs) && leb (length bs) 16) (digits_from 0 bs)
    (sym (at_drop_more (digits_from n) bs i 0 h ∙ ap (λ v. cond v (digits_from (n * 10 + (get_or bs i 0 - 48)) (drop (i + 1) bs)) None) (sym wrong))
    ∙ so_far)
