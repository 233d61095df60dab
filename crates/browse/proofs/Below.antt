-- Sums over the numbers below a number.
use Rattle.std.proofs.Common.{◌≡◌, ℕ, zero, suc, ◌+◌, ◌<◌, Bool, true, false, cond, ◌&&◌, eqb, List, [], ◌∷◌, length, get_or, sym, refl, ap, ◌∙◌, ⊎_elim, arith}
use Rattle.std.specs.List.{AllByRecursion as All}
use Rattle.std.proofs.lemmas.Bool.{cases_eq, eq-eqb, ne_eqb}
use Rattle.search.proofs.Lists.{total, one}

-- f 0, f 1 and so on, below n
abbrev pub sum_below : (ℕ → ℕ) → ℕ → ℕ
sum_below f zero = 0
sum_below f (suc n) = sum_below f n + f n

pub sum_same : (f g : ℕ → ℕ) (n : ℕ) → ((k : ℕ) → k < n → f k ≡ g k) → sum_below f n ≡ sum_below g n
sum_same f g zero h = refl
sum_same f g (suc n) h = omega (arith, h n (omega arith), sum_same f g n (λ k i. h k (omega arith)))

sum_zero : (f : ℕ → ℕ) (n : ℕ) → ((k : ℕ) → k < n → f k ≡ 0) → sum_below f n ≡ 0
sum_zero f zero h = refl
sum_zero f (suc n) h = omega (arith, h n (omega arith), sum_zero f n (λ k i. h k (omega arith)))

sum_add : (f g : ℕ → ℕ) (n : ℕ) → sum_below (λ k. f k + g k) n ≡ sum_below f n + sum_below g n
sum_add f g zero = refl
sum_add f g (suc n) = omega (arith, sum_add f g n)

pub sum_ones : (n : ℕ) → sum_below (λ _. 1) n ≡ n
sum_ones zero = refl
sum_ones (suc n) = omega (arith, sum_ones n)

-- only the number k counts
sum_at : (f : ℕ → ℕ) (k n : ℕ) → k < n → sum_below (λ j. cond (eqb k j) (f j) 0) n ≡ f k
sum_at f k zero i = absurd (omega arith)
sum_at f k (suc n) i =
    ⊎_elim
    (λ e.
    let a : cond (eqb k n) (f n) 0 ≡ f k = ap (λ b. cond b (f n) 0) (eq-eqb k n e) ∙ ap f (sym e) in
    let b = sum_zero (λ j. cond (eqb k j) (f j) 0) n (λ j l. ap (λ b. cond b (f j) 0) (ne_eqb k j (λ q. omega (arith, q, e)))) in
    omega (arith, a, b))
    (λ e.
    let a : cond (eqb k n) (f n) 0 ≡ 0 = ap (λ b. cond b (f n) 0) (ne_eqb k n e) in
    omega (arith, a, sum_at f k n (omega (arith, e, i))))
    (cases_eq k n)

sum_front : (f : ℕ → ℕ) (n : ℕ) → sum_below f (suc n) ≡ f 0 + sum_below (λ k. f (suc k)) n
sum_front f zero = omega arith
sum_front f (suc n) = omega (arith, sum_front f n)

-- the sum over a list, by its places
pub sum_list : {X : Type 0} (f : X → ℕ) (xs : List X) (d : X) → sum_below (λ n. f (get_or xs n d)) (length xs) ≡ total f xs
sum_list f [] d = refl
sum_list f (x ∷ xs) d = sum_front (λ n. f (get_or (x ∷ xs) n d)) (length xs) ∙ ap (λ n. f x + n) (sum_list f xs d)

-- Things of which some have a number: where each number below n is had by one of them, a sum over their numbers is that below n.
module _ {X : Type 0} (has : X → Bool) (number : X → ℕ) where
  abbrev pub is : ℕ → X → Bool
  is k x = has x && eqb (number x) k

  never_had : (f : ℕ → ℕ) (k : ℕ) (xs : List X) → total (λ x. one (is k x)) xs ≡ 0 → total (λ x. cond (is k x) (f k) 0) xs ≡ 0
  never_had f k [] h = refl
  never_had f k (x ∷ xs) h = at (is k x) (never_had f k xs) h
    where
      at : (b : Bool) → (total (λ x. one (is k x)) xs ≡ 0 → total (λ x. cond (is k x) (f k) 0) xs ≡ 0) → one b + total (λ x. one (is k x)) xs ≡ 0 →
          cond b (f k) 0 + total (λ x. cond (is k x) (f k) 0) xs ≡ 0
      at true g h = absurd (omega (arith, h))
      at false g h = omega (arith, g (omega (arith, h)))

  had_once : (f : ℕ → ℕ) (k : ℕ) (xs : List X) → total (λ x. one (is k x)) xs ≡ 1 → total (λ x. cond (is k x) (f k) 0) xs ≡ f k
  had_once f k [] h = absurd (omega (arith, h))
  had_once f k (x ∷ xs) h = at (is k x) (had_once f k xs) h
    where
      at : (b : Bool) → (total (λ x. one (is k x)) xs ≡ 1 → total (λ x. cond (is k x) (f k) 0) xs ≡ f k) → one b + total (λ x. one (is k x)) xs ≡ 1 →
          cond b (f k) 0 + total (λ x. cond (is k x) (f k) 0) xs ≡ f k
      at true g h = omega (arith, never_had f k xs (omega (arith, h)))
      at false g h = omega (arith, g (omega (arith, h)))

  by_number : (f : ℕ → ℕ) (n : ℕ) (xs : List X) → All (λ x. has x ≡ true → number x < n) xs →
      total (λ x. cond (has x) (f (number x)) 0) xs ≡ sum_below (λ k. total (λ x. cond (is k x) (f k) 0) xs) n
  by_number f n [] h = sym (sum_zero (λ _. 0) n (λ _ _. refl))
  by_number f n (x ∷ xs) h =
      omega
      (arith, at (has x) h.0, by_number f n xs h.1, sum_add (λ k. cond (is k x) (f k) 0) (λ k. total (λ x. cond (is k x) (f k) 0) xs) n)
    where
      at : (b : Bool) → (b ≡ true → number x < n) → cond b (f (number x)) 0 ≡ sum_below (λ k. cond (b && eqb (number x) k) (f k) 0) n
      at true l = sym (sum_at f (number x) n (l refl))
      at false l = sym (sum_zero (λ _. 0) n (λ _ _. refl))

  pub each_once : (f : ℕ → ℕ) (n : ℕ) (xs : List X) → All (λ x. has x ≡ true → number x < n) xs →
      ((k : ℕ) → k < n → total (λ x. one (is k x)) xs ≡ 1) → total (λ x. cond (has x) (f (number x)) 0) xs ≡ sum_below f n
  each_once f n xs h o =
      by_number f n xs h ∙ sum_same (λ k. total (λ x. cond (is k x) (f k) 0) xs) f n (λ k i. had_once f k xs (o k i))
