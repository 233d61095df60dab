-- Writing a level, from its last digit to its minus.
use Rattle.std.proofs.Common.{◌≡◌, ℕ, ◌+◌, ◌-◌, ◌/◌, ◌%◌, ◌^◌, ◌<◌, ◌≤◌, List, [], ◌∷◌, ◌++◌, length, drop, set, ℤ, pos, negsuc, nat_abs, ◌≤ℤ◌, ◌<ℤ◌, decimal, sym, refl, ap, ◌∙◌, append_assoc, arith, length-append, length-drop, length-set, w32, SFits, to_z, of_z}
use Rattle.std.proofs.lemmas.Int.{ints, to_z-of_z}
use Rattle.std.proofs.lemmas.List.{drop-set, drop_all}
use Rattle.std.proofs.lemmas.Fmt.{decimal_digit, decimal_step, decimal_nonempty, length-decimal-le}
use Rattle.level.specs.Write.{hundredths_text, level_text}

-- ---- how long the text is
pub length_one : (n : ℕ) → n < 10 → length (decimal n) ≡ 1
length_one n h = ap length (decimal_digit n h)

pub length_step : (n : ℕ) → 10 ≤ n → n < 2 ^ 64 → length (decimal n) ≡ length (decimal (n / 10)) + 1
length_step n h k = ap length (decimal_step n h k) ∙ length-append (decimal (n / 10)) ((48 + n % 10) ∷ [])

pub length_ten : (n : ℕ) → n < 2 ^ 32 → length (decimal n) ≤ 10
length_ten n h = length-decimal-le 10 n (omega arith) (omega arith) (omega arith)

length_hundredths : (n : ℕ) → length (hundredths_text n) ≡ length (decimal (n / 100)) + 3
length_hundredths n = length-append (decimal (n / 100)) (46 ∷ (48 + n / 10 % 10) ∷ (48 + n % 10) ∷ [])

pub length_most : (n : ℕ) → n < 2 ^ 32 → length (decimal (n / 100)) ≤ 8
length_most n h = length-decimal-le 8 (n / 100) (omega arith) (omega arith) (omega arith)

-- ---- the minus
pub minus_text : (x : ℤ) (n : ℕ) → x <ℤ pos 0 → n ≡ nat_abs x → level_text x ≡ 45 ∷ hundredths_text n
minus_text (pos m) n h e = absurd (omega (arith, ints))
minus_text (negsuc m) n h e = ap (λ k. 45 ∷ hundredths_text k) (sym e)

pub plus_text : (x : ℤ) (n : ℕ) → pos 0 ≤ℤ x → n ≡ nat_abs x → level_text x ≡ hundredths_text n
plus_text (pos m) n h e = ap hundredths_text (sym e)
plus_text (negsuc m) n h e = absurd (omega (arith, ints))

pub magnitude : (x : ℤ) (n : ℕ) → SFits w32 x → n ≡ nat_abs (to_z w32 (of_z w32 x)) → n ≡ nat_abs x
magnitude x n h e = e ∙ ap nat_abs (to_z-of_z w32 x h)

-- the hundredths need no more room than the whole text
pub hundredths_fit : (x : ℤ) (n : ℕ) → n ≡ nat_abs x → length (hundredths_text n) ≤ length (level_text x)
hundredths_fit (pos m) n e = omega (arith, ap (λ k. length (hundredths_text k)) e)
hundredths_fit (negsuc m) n e = omega (arith, ap (λ k. length (hundredths_text k)) e)

-- ---- the point and the two digits behind it
pub four_at_least : (n : ℕ) → n < 2 ^ 64 → 4 ≤ length (hundredths_text n)
four_at_least n h = omega (arith, length_hundredths n, decimal_nonempty (n / 100) (omega arith))

pub three_put : (n a b size : ℕ) (out : List ℕ) → size ≡ length out → 3 ≤ size → a ≡ 48 + n % 10 → b ≡ 48 + n / 10 % 10 → decimal (n / 100) ++ drop (size - 3) (set (set (set out (size - 1) a) (size - 2) b) (size - 3) 46) ≡ hundredths_text n
three_put n a b size out l h e f =
    let one = set out (size - 1) a in
    let two = set one (size - 2) b in
    let k : length one ≡ size = length-set out (size - 1) a ∙ sym l in
    let m : length two ≡ size = length-set one (size - 2) b ∙ k in
    let i : size - 3 + 1 ≡ size - 2 = omega arith in
    let j : size - 2 + 1 ≡ size - 1 = omega arith in
    let s : size - 1 + 1 ≡ size = omega arith in
    let t : drop (size - 3) (set two (size - 3) 46) ≡ 46 ∷ b ∷ a ∷ [] =
    drop-set two (size - 3) 46 (omega arith)
    ∙ ap (λ p. 46 ∷ drop p two) i
    ∙ ap (λ text. 46 ∷ text) (drop-set one (size - 2) b (omega arith))
    ∙ ap (λ p. 46 ∷ b ∷ drop p one) j
    ∙ ap (λ text. 46 ∷ b ∷ text) (drop-set out (size - 1) a (omega arith))
    ∙ ap (λ text. 46 ∷ b ∷ a ∷ text) (drop_all (size - 1 + 1) out (omega arith))
    in
    ap (λ text. decimal (n / 100) ++ text) t
    ∙ ap (λ x. decimal (n / 100) ++ (46 ∷ b ∷ x ∷ [])) e
    ∙ ap (λ x. decimal (n / 100) ++ (46 ∷ x ∷ (48 + n % 10) ∷ [])) f

-- ---- the feet, from their last digit on
-- a digit goes in front of what stands behind these feet
pub digit_put : (n feet at : ℕ) (out : List ℕ) → 10 ≤ feet → feet < 2 ^ 64 → at < length out → decimal feet ++ drop (at + 1) out ≡ hundredths_text n → decimal (feet / 10) ++ drop at (set out at (48 + feet % 10)) ≡ hundredths_text n
digit_put n feet at out h k l e =
    ap (λ text. decimal (feet / 10) ++ text) (drop-set out at (48 + feet % 10) l)
    ∙ sym (append_assoc (decimal (feet / 10)) ((48 + feet % 10) ∷ []) (drop (at + 1) out))
    ∙ ap (λ digits. digits ++ drop (at + 1) out) (sym (decimal_step feet h k))
    ∙ e

pub first_put : (n feet at : ℕ) (out : List ℕ) → feet < 10 → at < length out → decimal feet ++ drop (at + 1) out ≡ hundredths_text n → drop at (set out at (48 + feet % 10)) ≡ hundredths_text n
first_put n feet at out h l e =
    let same : feet % 10 ≡ feet = omega arith in
    drop-set out at (48 + feet % 10) l
    ∙ ap (λ d. (48 + d) ∷ drop (at + 1) out) same
    ∙ ap (λ digits. digits ++ drop (at + 1) out) (sym (decimal_digit feet h))
    ∙ e

-- where more digits are left, more room is left
pub place_left : (n feet at : ℕ) (out : List ℕ) → 10 ≤ feet → feet < 2 ^ 64 → length (hundredths_text n) ≤ length out → at < length out → decimal feet ++ drop (at + 1) out ≡ hundredths_text n → 1 ≤ at
place_left n feet at out h k m l e =
    omega (arith, ap length e, length-append (decimal feet) (drop (at + 1) out), length-drop (at + 1) out, length_step feet h k, decimal_nonempty (feet / 10) (omega arith))

-- ---- the whole text
whole_by : (at : ℕ) (out : List ℕ) → at ≡ 0 → drop at out ≡ out
whole_by at out e = ap (λ k. drop k out) e

pub whole : (x : ℤ) (n at : ℕ) (out : List ℕ) → pos 0 ≤ℤ x → n ≡ nat_abs x → length out ≡ length (level_text x) → at < length out → drop at out ≡ hundredths_text n → out ≡ level_text x
whole x n at out h e l k t =
    let p = plus_text x n h e in
    let z : at ≡ 0 = omega (arith, ap length t, ap length p, length-drop at out) in
    sym (whole_by at out z) ∙ t ∙ sym p

minus_first : (out : List ℕ) → 0 < length out → set out 0 45 ≡ 45 ∷ drop 1 out
minus_first [] h = absurd (omega arith)
minus_first (x ∷ out) h = refl

pub whole_below : (x : ℤ) (n at : ℕ) (out : List ℕ) → x <ℤ pos 0 → n ≡ nat_abs x → length out ≡ length (level_text x) → at < length out → drop at out ≡ hundredths_text n → set out 0 45 ≡ level_text x
whole_below x n at out h e l k t =
    let p = minus_text x n h e in
    let z : at ≡ 1 = omega (arith, ap length t, ap length p, length-drop at out) in
    minus_first out (omega arith) ∙ ap (λ i. 45 ∷ drop i out) (sym z) ∙ ap (λ text. 45 ∷ text) t ∙ sym p
