-- The things of a list of places.
use Rattle.std.proofs.Common.{◌≡◌, ℕ, zero, suc, ◌+◌, ◌<◌, ◌≤◌, Bool, true, false, cond, List, [], ◌∷◌, length, get_or, filter, refl, ap, ◌∙◌, arith, Some, None, Option}
use Rattle.std.specs.List.{AllByRecursion as All}
use Rattle.std.proofs.ByRecursion.{All-from_get_or}
use Rattle.book.specs.declared.place.Entry.{Entry}
use Rattle.search.proofs.Lists.{total, total_none}
use Rattle.browse.specs.declared.waiting.Class.{Class}
use Rattle.browse.specs.Thing.{Thing}
use Rattle.browse.specs.Tree.{Far, thing, things}

-- the entry e stands at place i
abbrev pub At : List (Option Entry) → ℕ → Entry → Type 0
At ps i e = get_or ps i None ≡ Some e

-- an entry stands at every place
abbrev pub Full : List (Option Entry) → Type 0
Full ps = (i : ℕ) → i < length ps → (e : Entry) × At ps i e

-- where an entry stands, there is a place
pub at_within : (ps : List (Option Entry)) (i : ℕ) (e : Entry) → At ps i e → i < length ps
at_within [] i e h = absurd (cc (h))
at_within (p ∷ ps) zero e h = omega arith
at_within (p ∷ ps) (suc i) e h = omega (arith, at_within ps i e h)

pub same_entry : (p : Option Entry) (d e : Entry) → p ≡ Some d → p ≡ Some e → d ≡ e
same_entry p d e h k = cc

-- a sum to which one place alone adds
pub total_only : {X : Type 0} (f : X → ℕ) (xs : List X) (d : X) (i : ℕ) → i < length xs → ((j : ℕ) → j < length xs → (j ≡ i → ⊥) → f (get_or xs j d) ≡ 0) →
    total f xs ≡ f (get_or xs i d)
total_only f [] d i l h = absurd (omega arith)
total_only f (x ∷ xs) d zero l h =
    omega (arith, total_none f xs (All-from_get_or (λ y. f y ≡ 0) xs d (λ j k. h (suc j) (omega arith) (λ e. omega (arith, e)))))
total_only f (x ∷ xs) d (suc i) l h =
    omega (arith, h 0 (omega arith) (λ e. omega (arith, e)), total_only f xs d i (omega arith) (λ j k n. h (suc j) (omega arith) (λ e. n (omega (arith, e)))))

module _ (far : Far) (c : Class) where
  pub all_things_lem : (P : Thing → Type 0) (ps : List (Option Entry)) → ((i : ℕ) (e : Entry) → At ps i e → P (thing far c e)) → All P (things far c ps)
  all_things_lem P [] h = tt
  all_things_lem P (None ∷ ps) h = all_things_lem P ps (λ i e k. h (suc i) e k)
  all_things_lem P (Some e ∷ ps) h = (h 0 e refl, all_things_lem P ps (λ i e k. h (suc i) e k))

  pub length_things : (ps : List (Option Entry)) → length (things far c ps) ≤ length ps
  length_things [] = omega arith
  length_things (None ∷ ps) = omega (arith, length_things ps)
  length_things (Some e ∷ ps) = omega (arith, length_things ps)

  pub length_full : (ps : List (Option Entry)) → Full ps → length (things far c ps) ≡ length ps
  length_full [] h = refl
  length_full (None ∷ ps) h = let r = h 0 (omega arith) in absurd (cc (r.1))
  length_full (Some e ∷ ps) h = omega (arith, length_full ps (λ i l. h (suc i) (omega arith)))

  -- a sum over the things, by the places
  abbrev pub from : (Thing → ℕ) → Option Entry → ℕ
  from f None = 0
  from f (Some e) = f (thing far c e)

  pub total_things : (f : Thing → ℕ) (ps : List (Option Entry)) → total f (things far c ps) ≡ total (from f) ps
  total_things f [] = refl
  total_things f (None ∷ ps) = omega (arith, total_things f ps)
  total_things f (Some e ∷ ps) = ap (λ n. f (thing far c e) + n) (total_things f ps)

  -- a test of the class keeps all of them or none
  pub kept_things : (p : Class → Bool) (ps : List (Option Entry)) → filter (λ x. p x.class) (things far c ps) ≡ cond (p c) (things far c ps) []
  kept_things p ps = at (p c) refl ps
    where
      at : (b : Bool) → p c ≡ b → (ps : List (Option Entry)) → filter (λ x. p x.class) (things far c ps) ≡ cond b (things far c ps) []
      at true e [] = refl
      at false e [] = refl
      at b e (None ∷ ps) = at b e ps
      at true e (Some d ∷ ps) =
          ap (λ b. cond b (thing far c d ∷ filter (λ x. p x.class) (things far c ps)) (filter (λ x. p x.class) (things far c ps))) e
          ∙ ap (λ xs. thing far c d ∷ xs) (at true e ps)
      at false e (Some d ∷ ps) =
          ap (λ b. cond b (thing far c d ∷ filter (λ x. p x.class) (things far c ps)) (filter (λ x. p x.class) (things far c ps))) e
          ∙ at false e ps
