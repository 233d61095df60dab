-- One bit of one word, set and counted.
use Rattle.std.proofs.Common.{◌≡◌, ℕ, zero, suc, ◌+◌, ◌-◌, ◌*◌, ◌/◌, ◌%◌, ◌^◌, ◌<◌, ◌≤◌, Bool, true, false, cond, ◌||◌, eqb, ◌≢◌, ◌⊎◌, List, length, get_or, set, take, replicate, sum_by, sym, refl, ap, ◌∙◌, inl, inr, add-zero, add-one, add-suc, arith, lit<}
use native.Mathlib.Nat.{zero-div}
use lib.Bits.{bit_or, or_zero_l}
use lib.Count.{ones, ones_cat}
use Rattle.std.proofs.lemmas.List.{get_or-set_same, get_or-set_other, take_all}
use Rattle.std.proofs.lemmas.List.Sums.{sum_by_more}
use Rattle.std.proofs.lemmas.Nat.{or_shr, or_mod, or_comm, shl-shr, pow-add, pow_pos, pow_below, div_below, mod_below, mod-pow-add, one_shl}
use Rattle.std.proofs.lemmas.Bool.{cases_order}
use Rattle.std.proofs.lemmas.Bool.Decides.{nat_tests}
use Rattle.book_check.specs.Below.{count_below}
use Rattle.book_check.specs.Marks.{marked}

-- the bit i of a word
abbrev bit : ℕ → ℕ → ℕ
bit w i = w / 2 ^ i % 2

bit_below : (w i : ℕ) → bit w i < 2
bit_below w i = mod_below (w / 2 ^ i) 2 (lit< tt)

pow_bit_same : (j : ℕ) → bit (2 ^ j) j ≡ 1
pow_bit_same j =
    let e : 1 * 2 ^ j / 2 ^ j ≡ 1 = shl-shr 1 j in
    let m : 1 * 2 ^ j ≡ 2 ^ j = omega arith in
    ap (λ x. x % 2) (ap (λ x. x / 2 ^ j) (sym m) ∙ e)

pow_bit_other : (j i : ℕ) → (j < i) ⊎ (i < j) → bit (2 ^ j) i ≡ 0
pow_bit_other j i (inl h) =
    let z : 2 ^ j / 2 ^ i < 1 = div_below (2 ^ j) (2 ^ i) 1 (pow_pos i) (omega (arith, pow_below j i h)) in
    let e : 2 ^ j / 2 ^ i ≡ 0 = omega arith in
    ap (λ x. x % 2) e
pow_bit_other j i (inr h) =
    let d = j - i - 1 in
    let e : j ≡ (d + 1) + i = omega arith in
    let even : 2 ^ d * 2 % 2 ≡ 0 = omega arith in
    ap (λ x. x % 2) (ap (λ x. 2 ^ x / 2 ^ i) e ∙ ap (λ x. x / 2 ^ i) (pow-add 2 (d + 1) i) ∙ shl-shr (2 ^ (d + 1)) i ∙ pow-add 2 d 1) ∙ even

or_bit : (w j i : ℕ) → bit (bit_or w (2 ^ j)) i ≡ bit_or (bit w i) (bit (2 ^ j) i)
or_bit w j i = ap (λ x. x % 2) (or_shr w (2 ^ j) i) ∙ or_mod (w / 2 ^ i) (2 ^ j / 2 ^ i) 1

or_one : (x : ℕ) → x < 2 → bit_or x 1 ≡ 1
or_one zero h = refl
or_one (suc zero) h = refl
or_one (suc (suc x)) h = absurd (omega arith)

pub set_bit_same : (w j : ℕ) → bit (bit_or w (2 ^ j)) j ≡ 1
set_bit_same w j = or_bit w j j ∙ ap (bit_or (bit w j)) (pow_bit_same j) ∙ or_one (bit w j) (bit_below w j)

pub set_bit_other : (w j i : ℕ) → (j < i) ⊎ (i < j) → bit (bit_or w (2 ^ j)) i ≡ bit w i
set_bit_other w j i h =
    or_bit w j i ∙ ap (bit_or (bit w i)) (pow_bit_other j i h) ∙ or_comm (bit w i) 0 ∙ or_zero_l (bit w i)

-- ---- `mark`

-- the words after the mark n, as the code writes them
abbrev pub after : List ℕ → ℕ → List ℕ
after ws n = set ws (n / 64) (bit_or (get_or ws (n / 64) 0) (1 * 2 ^ (n % 64) % 2 ^ 64))

same_word : (ws : List ℕ) (n k : ℕ) → n / 64 < length ws → k / 64 ≡ n / 64 → marked (after ws n) k ≡ eqb (bit (bit_or (get_or ws (k / 64) 0) (2 ^ (n % 64))) (k % 64)) 1
unfolding marked
same_word ws n k h e =
    let o : 1 * 2 ^ (n % 64) % 2 ^ 64 ≡ 2 ^ (n % 64) = one_shl (n % 64) 64 (omega arith) in
    rw (o, e) (ap (λ x. eqb (bit x (k % 64)) 1) (get_or-set_same ws (n / 64) (bit_or (get_or ws (n / 64) 0) (2 ^ (n % 64))) 0 h))

other_word : (ws : List ℕ) (n k : ℕ) → k / 64 ≢ n / 64 → marked (after ws n) k ≡ marked ws k
unfolding marked
other_word ws n k ne = ap (λ x. eqb (bit x (k % 64)) 1) (get_or-set_other ws (n / 64) (k / 64) _ 0 ne)

apart : (n k : ℕ) (b c : Bool) → (n < k) ⊎ (k < n) → b ≡ c → b ≡ (eqb k n || c)
apart n k b c (inl h) e = grind (arith, nat_tests)
apart n k b c (inr h) e = grind (arith, nat_tests)

met : (n k : ℕ) (b c : Bool) → n ≡ k → b ≡ true → b ≡ (eqb k n || c)
met n k b c e h = grind (arith, nat_tests)

in_word : (ws : List ℕ) (n k : ℕ) → k / 64 ≡ n / 64 → (n % 64 ≡ k % 64) ⊎ ((n % 64 < k % 64) ⊎ (k % 64 < n % 64)) → eqb (bit (bit_or (get_or ws (k / 64) 0) (2 ^ (n % 64))) (k % 64)) 1 ≡ (eqb k n || marked ws k)
unfolding marked
in_word ws n k e (inl p) =
    met n k _ _ (omega arith)
    (ap (λ j. eqb (bit (bit_or (get_or ws (k / 64) 0) (2 ^ j)) (k % 64)) 1) p ∙ ap (λ x. eqb x 1) (set_bit_same (get_or ws (k / 64) 0) (k % 64)))
in_word ws n k e (inr (inl o)) =
    apart n k _ _ (inl (omega arith)) (ap (λ x. eqb x 1) (set_bit_other (get_or ws (k / 64) 0) (n % 64) (k % 64) (inl o)))
in_word ws n k e (inr (inr o)) =
    apart n k _ _ (inr (omega arith)) (ap (λ x. eqb x 1) (set_bit_other (get_or ws (k / 64) 0) (n % 64) (k % 64) (inr o)))

by_word : (ws : List ℕ) (n k : ℕ) → n / 64 < length ws → (n / 64 ≡ k / 64) ⊎ ((n / 64 < k / 64) ⊎ (k / 64 < n / 64)) → marked (after ws n) k ≡ (eqb k n || marked ws k)
by_word ws n k h (inl e) = same_word ws n k h (sym e) ∙ in_word ws n k (sym e) (cases_order (n % 64) (k % 64))
by_word ws n k h (inr (inl o)) = apart n k _ _ (inl (omega arith)) (other_word ws n k (omega arith))
by_word ws n k h (inr (inr o)) = apart n k _ _ (inr (omega arith)) (other_word ws n k (omega arith))

pub mark_after : (ws : List ℕ) (n k : ℕ) → n / 64 < length ws → marked (after ws n) k ≡ (eqb k n || marked ws k)
mark_after ws n k h = by_word ws n k h (cases_order (n / 64) (k / 64))

-- ---- no mark

zero_at : (n i : ℕ) → ◌≡◌ {A = ℕ} (get_or (replicate n 0) i 0) 0
zero_at zero i = refl
zero_at (suc n) zero = refl
zero_at (suc n) (suc i) = zero_at n i

pub no_mark : (n k : ℕ) → marked (replicate n 0) k ≡ false
unfolding marked
no_mark n k = ap (λ x. eqb (bit x (k % 64)) 1) (zero_at n (k / 64)) ∙ ap (λ x. eqb (x % 2) 1) (zero-div (2 ^ (k % 64)))

-- ---- counting

pub count_same : (f g : ℕ → Bool) (n : ℕ) → ((k : ℕ) → k < n → f k ≡ g k) → count_below f n ≡ count_below g n
unfolding count_below
count_same f g zero e = refl
count_same f g (suc n) e =
    let a = count_same f g n (λ k h. e k (omega arith)) in
    let b : ◌≡◌ {A = ℕ} (cond (f n) 1 0) (cond (g n) 1 0) = ap (λ t. cond t 1 0) (e n (omega arith)) in
    omega arith

pub count_add : (f : ℕ → Bool) (a n : ℕ) → count_below f (a + n) ≡ count_below f a + count_below (λ j. f (a + j)) n
unfolding count_below
count_add f a zero = ap (count_below f) (add-zero a) ∙ sym (add-zero (count_below f a))
count_add f a (suc n) = ap (count_below f) (add-suc a n) ∙ (let e = count_add f a n in omega arith)

-- where f holds at none from n on
pub count_past : (f : ℕ → Bool) (n d : ℕ) → ((k : ℕ) → n ≤ k → f k ≡ false) → count_below f (n + d) ≡ count_below f n
unfolding count_below
count_past f n zero h = ap (count_below f) (add-zero n)
count_past f n (suc d) h =
    ap (count_below f) (add-suc n d)
    ∙ (let a = count_past f n d h in
    let b : ◌≡◌ {A = ℕ} (cond (f (n + d)) 1 0) 0 = ap (λ t. cond t 1 0) (h (n + d) (omega arith)) in
    omega arith)

ones_bit : (x : ℕ) → x < 2 → ones x ≡ x
unfolding ones
ones_bit zero h = refl
ones_bit (suc zero) h = refl
ones_bit (suc (suc x)) h = absurd (omega arith)

as_test : (x : ℕ) → x < 2 → x ≡ cond (eqb x 1) 1 0
as_test x h = grind (arith, nat_tests)

ones_low : (w n : ℕ) → ones (w % 2 ^ n) ≡ count_below (λ i. eqb (bit w i) 1) n
unfolding count_below
ones_low w zero = ap ones (let m : w % 1 ≡ 0 = omega arith in m) ∙ ones_bit 0 (lit< tt)
ones_low w (suc n) =
    ap (λ k. ones (w % 2 ^ k)) (let e : suc n ≡ 1 + n = omega arith in e) ∙ ap ones (mod-pow-add w 1 n)
    ∙ ones_cat n (bit w n) (w % 2 ^ n) (mod_below w (2 ^ n) (pow_pos n))
    ∙ (let a = ones_low w n in
    let b = ones_bit (bit w n) (bit_below w n) in
    let c = as_test (bit w n) (bit_below w n) in
    omega arith)

pub ones_count : (w : ℕ) → w < 2 ^ 64 → ones w ≡ count_below (λ i. eqb (bit w i) 1) 64
ones_count w h = ap ones (let e : w ≡ w % 2 ^ 64 = omega arith in e) ∙ ones_low w 64

-- one word more
count_word : (ws : List ℕ) (i total : ℕ) → get_or ws i 0 < 2 ^ 64 → total ≡ count_below (marked ws) (i * 64) → total + ones (get_or ws i 0) ≡ count_below (marked ws) ((i + 1) * 64)
unfolding marked
count_word ws i total h e =
    let s : (i + 1) * 64 ≡ i * 64 + 64 = omega arith in
    let a = ones_count (get_or ws i 0) h in
    let at : (j : ℕ) → j < 64 → eqb (bit (get_or ws i 0) j) 1 ≡ marked ws (i * 64 + j) =
    λ j l. let p : (i * 64 + j) / 64 ≡ i = omega arith in let q : (i * 64 + j) % 64 ≡ j = omega arith in rw (p, q) refl in
    let b = count_same (λ j. eqb (bit (get_or ws i 0) j) 1) (λ j. marked ws (i * 64 + j)) 64 at in
    let d = count_add (marked ws) (i * 64) 64 in
    rw s (omega arith)

-- the ones of words, together
pub ones_in : (ws : List ℕ) → ((i : ℕ) → get_or ws i 0 < 2 ^ 64) → sum_by ones ws ≡ count_below (marked ws) (length ws * 64)
unfolding count_below
ones_in ws fits = ap (sum_by ones) (sym (take_all (length ws) ws (omega arith))) ∙ upto (length ws) (omega arith)
  where
    upto : (n : ℕ) → n ≤ length ws → sum_by ones (take n ws) ≡ count_below (marked ws) (n * 64)
    upto zero h = refl
    upto (suc n) h =
        let one = sum_by_more ones ws n 0 (omega arith) in
        let word = count_word ws n (sum_by ones (take n ws)) (fits n) (upto n (omega arith)) in
        ap (λ k. sum_by ones (take k ws)) (sym (add-one n)) ∙ one ∙ word ∙ ap (λ k. count_below (marked ws) (k * 64)) (add-one n)
