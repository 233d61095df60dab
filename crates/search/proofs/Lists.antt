-- Sums over lists, and what holds of each element of a list made of others.
use Rattle.std.proofs.Common.{◌≡◌, ℕ, ◌+◌, Bool, true, false, cond, List, [], ◌∷◌, ◌++◌, map, length, sum_by, count_by, filter, sym, refl, ap, ◌∙◌, arith}
pub use mathlib.Core.List.{map-map as map_map}
use Rattle.std.specs.List.{ContainsAt as Has, flat_map, AllByRecursion as All}
use Rattle.std.proofs.ByRecursion.{All-append}
use Rattle.std.proofs.lemmas.List.{length-map, get_or-map}
use Rattle.std.proofs.lemmas.List.Sums.{sum_by-cons}

-- It computes by cases, which `sum_by`, a fold from the front, does not.
abbrev pub total : {X : Type 0} → (X → ℕ) → List X → ℕ
total f [] = 0
total f (x ∷ xs) = f x + total f xs

-- Two lists hold the same things, each as often, if every sum over the one is that over the other.
abbrev pub Alike : {X : Type 0} → List X → List X → Type 0
Alike {X} xs ys = (f : X → ℕ) → total f xs ≡ total f ys

abbrev pub one : Bool → ℕ
one b = cond b 1 0

pub total_append : {X : Type 0} (f : X → ℕ) (xs ys : List X) → total f (xs ++ ys) ≡ total f xs + total f ys
total_append f [] ys = omega arith
total_append f (x ∷ xs) ys = omega (arith, total_append f xs ys)

pub total_joined : {X Y : Type 0} (f : Y → ℕ) (g : X → List Y) (xs : List X) → total f (flat_map g xs) ≡ total (λ x. total f (g x)) xs
total_joined f g [] = refl
total_joined f g (x ∷ xs) = omega (arith, total_joined f g xs, total_append f (g x) (flat_map g xs))

pub total_map : {X Y : Type 0} (f : Y → ℕ) (g : X → Y) (xs : List X) → total f (map g xs) ≡ total (λ x. f (g x)) xs
total_map f g [] = refl
total_map f g (x ∷ xs) = ap (λ n. f (g x) + n) (total_map f g xs)

pub total_none : {X : Type 0} (f : X → ℕ) (xs : List X) → All (λ x. f x ≡ 0) xs → total f xs ≡ 0
total_none f [] h = refl
total_none f (x ∷ xs) h = omega (arith, total_none f xs h.1, h.0)

pub total_each : {X : Type 0} (f : X → ℕ) (xs : List X) → All (λ x. f x ≡ 1) xs → total f xs ≡ length xs
total_each f [] h = refl
total_each f (x ∷ xs) h = omega (arith, total_each f xs h.1, h.0)

pub total_same : {X : Type 0} (f g : X → ℕ) (xs : List X) → All (λ x. f x ≡ g x) xs → total f xs ≡ total g xs
total_same f g [] h = refl
total_same f g (x ∷ xs) h = omega (arith, total_same f g xs h.1, h.0)

pub total_kept : {X : Type 0} (p : X → Bool) (f : X → ℕ) (xs : List X) → total f (filter p xs) ≡ total (λ x. cond (p x) (f x) 0) xs
total_kept p f [] = refl
total_kept p f (x ∷ xs) =
    let h = total_kept p f xs in
    elim (p x) as (λ b. total f (cond b (x ∷ filter p xs) (filter p xs)) ≡ cond b (f x) 0 + total (λ y. cond (p y) (f y) 0) xs)
    [ true ↦ omega (arith, h) | false ↦ omega (arith, h) ]

pub length_total : {X : Type 0} (xs : List X) → length xs ≡ total (λ _. 1) xs
length_total [] = refl
length_total (x ∷ xs) = omega (arith, length_total xs)

pub count_by_total : {X : Type 0} (p : X → Bool) (xs : List X) → count_by p xs ≡ total (λ x. one (p x)) xs
count_by_total p [] = refl
count_by_total p (x ∷ xs) = sum_by-cons (λ y. cond (p y) 1 0) x xs ∙ ap (λ n. one (p x) + n) (count_by_total p xs)

pub alike_kept : {X : Type 0} (p : X → Bool) (xs ys : List X) → Alike xs ys → Alike (filter p xs) (filter p ys)
alike_kept p xs ys h f = total_kept p f xs ∙ h (λ x. cond (p x) (f x) 0) ∙ sym (total_kept p f ys)

pub alike_map : {X Y : Type 0} (g : X → Y) (xs ys : List X) → Alike xs ys → Alike (map g xs) (map g ys)
alike_map g xs ys h f = total_map f g xs ∙ h (λ x. f (g x)) ∙ sym (total_map f g ys)

pub alike_length : {X : Type 0} (xs ys : List X) → Alike xs ys → length xs ≡ length ys
alike_length xs ys h = length_total xs ∙ h (λ _. 1) ∙ sym (length_total ys)

pub alike_count : {X : Type 0} (p : X → Bool) (xs ys : List X) → Alike xs ys → count_by p xs ≡ count_by p ys
alike_count p xs ys h = count_by_total p xs ∙ h (λ x. one (p x)) ∙ sym (count_by_total p ys)

pub total_sum_by : {X : Type 0} (f : X → ℕ) (xs : List X) → total f xs ≡ sum_by f xs
total_sum_by f [] = refl
total_sum_by f (x ∷ xs) = ap (λ n. f x + n) (total_sum_by f xs) ∙ sym (sum_by-cons f x xs)

-- what holds of each element

pub all_left : {X : Type 0} (P : X → Type 0) (xs ys : List X) → All P (xs ++ ys) → All P xs
all_left P [] ys h = tt
all_left P (x ∷ xs) ys h = (h.0, all_left P xs ys h.1)

pub all_right : {X : Type 0} (P : X → Type 0) (xs ys : List X) → All P (xs ++ ys) → All P ys
all_right P [] ys h = h
all_right P (x ∷ xs) ys h = all_right P xs ys h.1

pub all_join : {X Y : Type 0} (P : Y → Type 0) (g : X → List Y) (xs : List X) → All (λ x. All P (g x)) xs → All P (flat_map g xs)
all_join P g [] h = tt
all_join P g (x ∷ xs) h = All-append P (g x) (flat_map g xs) h.0 (all_join P g xs h.1)

pub all_unjoin : {X Y : Type 0} (P : Y → Type 0) (g : X → List Y) (xs : List X) → All P (flat_map g xs) → All (λ x. All P (g x)) xs
all_unjoin P g [] h = tt
all_unjoin P g (x ∷ xs) h = (all_left P (g x) (flat_map g xs) h, all_unjoin P g xs (all_right P (g x) (flat_map g xs) h))

pub all_both : {X : Type 0} (P Q R : X → Type 0) → ((x : X) → P x → Q x → R x) → (xs : List X) → All P xs → All Q xs → All R xs
all_both P Q R f [] h k = tt
all_both P Q R f (x ∷ xs) h k = (f x h.0 k.0, all_both P Q R f xs h.1 k.1)

pub all_every : {X : Type 0} (P : X → Type 0) → ((x : X) → P x) → (xs : List X) → All P xs
all_every P f [] = tt
all_every P f (x ∷ xs) = (f x, all_every P f xs)

pub joined_same : {X Y : Type 0} (f g : X → List Y) (xs : List X) → All (λ x. f x ≡ g x) xs → flat_map f xs ≡ flat_map g xs
joined_same f g [] h = refl
joined_same f g (x ∷ xs) h = λ i. h.0 i ++ joined_same f g xs h.1 i

pub has_map : {X Y : Type 0} (f : X → Y) (xs : List X) (x : X) → Has xs x → Has (map f xs) (f x)
has_map f xs x h = (h.0, omega (arith, h.1, length-map xs f), λ d. get_or-map f xs h.0 x d h.1 ∙ ap f (h.2 x))

pub map_same : {X Y : Type 0} (f g : X → Y) → ((x : X) → f x ≡ g x) → (xs : List X) → map f xs ≡ map g xs
map_same f g h [] = refl
map_same f g h (x ∷ xs) = λ i. h x i ∷ map_same f g h xs i
