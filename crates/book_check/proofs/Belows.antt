-- The first below a number, and some below a number, by what stands at each.
use Rattle.std.proofs.Common.{◌≡◌, ℕ, zero, suc, ◌+◌, ◌<◌, Bool, true, false, ◌||◌, Some, None, Option, sym, refl, ap, ◌∙◌, ⊎_elim, add-zero, add-one, arith}
use Rattle.std.specs.List.{list_any, range_with_len}
use Rattle.std.proofs.lemmas.Bool.{false≢true, or_parts, or_from, or_cases, or_left, or_right, cases_eq}
use Rattle.book_check.specs.Below.{or_else, first_below, some_below}

-- ---- some

pub some_no : (f : ℕ → Bool) (n : ℕ) → ((k : ℕ) → k < n → f k ≡ false) → some_below f n ≡ false
some_no f zero h = refl
some_no f (suc n) h = or_from (f n) (some_below f n) (h n (omega arith)) (some_no f n (λ k l. h k (omega arith)))

pub some_none : (f : ℕ → Bool) (n k : ℕ) → some_below f n ≡ false → k < n → f k ≡ false
some_none f zero k h l = absurd (omega arith)
some_none f (suc n) k h l =
    let p = or_parts (f n) (some_below f n) h in
    ⊎_elim (λ e. ap f e ∙ p.0) (λ ne. some_none f n k p.1 (omega arith)) (cases_eq k n)

pub some_at : (f : ℕ → Bool) (n k : ℕ) → k < n → f k ≡ true → some_below f n ≡ true
some_at f zero k l h = absurd (omega arith)
some_at f (suc n) k l h =
    ⊎_elim (λ e. or_left (f n) (some_below f n) (ap f (sym e) ∙ h)) (λ ne. or_right (f n) (some_below f n) (some_at f n k (omega arith) h)) (cases_eq k n)

pub some_found : (f : ℕ → Bool) (n : ℕ) → some_below f n ≡ true → (k : ℕ) × (k < n) × (f k ≡ true)
some_found f zero h = absurd (false≢true h)
some_found f (suc n) h =
    ⊎_elim (λ e. (n, omega arith, e)) (λ e. let r = some_found f n e in (r.0, omega (arith, r.1), r.2)) (or_cases (f n) (some_below f n) h)

-- from the front
some_front : (f : ℕ → Bool) (n : ℕ) → some_below f (suc n) ≡ (f 0 || some_below (λ k. f (suc k)) n)
some_front f zero = refl
some_front f (suc n) = ap (λ b. f (suc n) || b) (some_front f n) ∙ turned (f (suc n)) (f 0) (some_below (λ k. f (suc k)) n)
  where
    turned : (a b c : Bool) → (a || (b || c)) ≡ (b || (a || c))
    turned true true c = refl
    turned true false c = refl
    turned false b c = refl

-- `any` over a, a + 1, and so on for n numbers
pub any_below : (test : ℕ → Bool) (f : ℕ → Bool) (a n : ℕ) → ((k : ℕ) → test (a + k) ≡ f k) → list_any test (range_with_len a n) ≡ some_below f n
any_below test f a zero h = refl
any_below test f a (suc n) h =
    (λ i. first i || any_below test (λ k. f (suc k)) (a + 1) n after i) ∙ sym (some_front f n)
  where
    first : test a ≡ f 0
    first = ap test (sym (add-zero a)) ∙ h 0

    after : (k : ℕ) → test (a + 1 + k) ≡ f (suc k)
    after k = ap test (let e : a + 1 + k ≡ a + suc k = omega arith in e) ∙ h (suc k)

-- ---- first

pub first_no : {A : Type 0} (f : ℕ → Option A) (n : ℕ) → ((k : ℕ) → k < n → f k ≡ None) → first_below f n ≡ None
first_no f zero h = refl
first_no f (suc n) h = ap (λ x. or_else x (f n)) (first_no f n (λ k l. h k (omega arith))) ∙ h n (omega arith)

-- the parts of a choice that gives nothing
pub else_parts : {A : Type 0} (x y : Option A) → or_else x y ≡ None → (x ≡ None) × (y ≡ None)
else_parts (Some a) y h = (h, absurd cc)
else_parts None y h = (refl, h)

pub first_none : {A : Type 0} (f : ℕ → Option A) (n k : ℕ) → first_below f n ≡ None → k < n → f k ≡ None
first_none f zero k h l = absurd (omega arith)
first_none f (suc n) k h l =
    let p = else_parts (first_below f n) (f n) h in
    ⊎_elim (λ e. ap f e ∙ p.1) (λ ne. first_none f n k p.0 (omega arith)) (cases_eq k n)

pub first_more : {A : Type 0} (f : ℕ → Option A) (n : ℕ) → first_below f n ≡ None → f n ≡ None → first_below f (n + 1) ≡ None
first_more f n h k = ap (first_below f) (add-one n) ∙ ap (λ x. or_else x (f n)) h ∙ k

pub first_at : {A : Type 0} (f : ℕ → Option A) (n i : ℕ) (a : A) → first_below f i ≡ None → f i ≡ Some a → i < n → first_below f n ≡ Some a
first_at f zero i a h k l = absurd (omega arith)
first_at f (suc n) i a h k l =
    ⊎_elim (λ e. ap (λ x. or_else x (f n)) (ap (first_below f) (sym e) ∙ h) ∙ ap f (sym e) ∙ k)
    (λ ne. ap (λ x. or_else x (f n)) (first_at f n i a h k (omega arith))) (cases_eq i n)

pub first_same : {A : Type 0} (f g : ℕ → Option A) (n : ℕ) → ((k : ℕ) → f k ≡ g k) → first_below f n ≡ first_below g n
first_same f g zero h = refl
first_same f g (suc n) h = λ i. or_else (first_same f g n h i) (h n i)
