-- A sum over a list of which at most one element counts.
use Rattle.std.proofs.Common.{◌≡◌, ℕ, suc, ◌<◌, ◌≤◌, Bool, true, false, cond, List, [], ◌∷◌, length, get_or, sum_by, refl, ap, ⊎_elim, arith}
use Rattle.std.specs.List.{flat_map}
use Rattle.std.proofs.lemmas.Bool.{cases_lt}
use Rattle.std.proofs.lemmas.List.Sums.{sum_by-cons, sum_by-append}

module _ {X : Type 0} (f : X → ℕ) (d : X) where
  pub sum_zero : (xs : List X) → ((i : ℕ) → i < length xs → f (get_or xs i d) ≡ 0) → sum_by f xs ≡ 0
  sum_zero [] h = refl
  sum_zero (x ∷ xs) h = omega (arith, sum_by-cons f x xs, h 0 (omega arith), sum_zero xs (λ i l. h (suc i) (omega arith)))

  -- where the sum is not 0, some element counts
  pub sum_found : (xs : List X) → 0 < sum_by f xs → (i : ℕ) × (i < length xs) × (0 < f (get_or xs i d))
  sum_found [] h = absurd (omega arith)
  sum_found (x ∷ xs) h =
      ⊎_elim (λ l. (0, omega arith, l))
      (λ l. let r = sum_found xs (omega (arith, sum_by-cons f x xs)) in (suc r.0, omega (arith, r.1), r.2))
      (cases_lt 0 (f x))

  -- each element is at most 1, and no two count
  pub sum_single : (xs : List X) → ((i : ℕ) → i < length xs → f (get_or xs i d) ≤ 1) → ((i j : ℕ) → i < length xs → j < length xs → 0 < f (get_or xs i d) → 0 < f (get_or xs j d) → i ≡ j) → sum_by f xs ≤ 1
  sum_single [] each apart = omega arith
  sum_single (x ∷ xs) each apart =
      let one = each 0 (omega arith) in
      ⊎_elim
      (λ l.
      let rest = sum_zero xs (λ i h. ⊎_elim (λ k. absurd (let e = apart 0 (suc i) (omega arith) (omega arith) l k in omega arith)) (λ k. omega arith) (cases_lt 0 (f (get_or xs i d)))) in
      omega (arith, sum_by-cons f x xs, one, rest))
      (λ l.
      let rest = sum_single xs (λ i h. each (suc i) (omega arith)) (λ i j h k p q. let e = apart (suc i) (suc j) (omega arith) (omega arith) p q in omega arith) in
      omega (arith, sum_by-cons f x xs, l, rest))
      (cases_lt 0 (f x))

-- a sum over joined lists
pub sum_joined : {X Y : Type 0} (f : Y → ℕ) (g : X → List Y) (xs : List X) → sum_by f (flat_map g xs) ≡ sum_by (λ x. sum_by f (g x)) xs
sum_joined f g [] = refl
sum_joined f g (x ∷ xs) =
    omega (arith, sum_by-append f (g x) (flat_map g xs), sum_joined f g xs, sum_by-cons (λ y. sum_by f (g y)) x xs)

-- a test that counts
pub counts : (b : Bool) → b ≡ true → ◌≡◌ {A = ℕ} (cond b 1 0) 1
counts b h = ap (λ t. cond t 1 0) h

pub counted : (b : Bool) → 0 < cond b 1 0 → b ≡ true
counted true h = refl
counted false h = absurd (omega arith)

pub count_one : (b : Bool) → cond b 1 0 ≤ 1
count_one true = omega arith
count_one false = omega arith
