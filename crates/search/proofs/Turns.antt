-- Lists of turns: one list after another, and two that answer turns and keep step.
use Rattle.std.proofs.Common.{◌≡◌, suc, List, [], ◌∷◌, ◌++◌, map, length, refl, ap, ◌∙◌}
use Rattle.search.specs.Turns.{answers_from, standing_after}

module _ {S T A : Type 0} (turned : S → T → A × S) where
  pub answers_append : (s : S) (us vs : List T) → answers_from turned s (us ++ vs) ≡ answers_from turned s us ++ answers_from turned (standing_after turned s us) vs
  answers_append s [] vs = refl
  answers_append s (u ∷ us) vs = ap (λ qs. (turned s u).0 ∷ qs) (answers_append (turned s u).1 us vs)

  pub standing_append : (s : S) (us vs : List T) → standing_after turned s (us ++ vs) ≡ standing_after turned (standing_after turned s us) vs
  standing_append s [] vs = refl
  standing_append s (u ∷ us) vs = standing_append (turned s u).1 us vs

  pub answers_length : (s : S) (us : List T) → length (answers_from turned s us) ≡ length us
  answers_length s [] = refl
  answers_length s (u ∷ us) = ap suc (answers_length (turned s u).1 us)

module _ {A B S U T : Type 0} (say : B → A) (Match : S → U → Type 0) (turned : S → T → A × S) (turned' : U → T → B × U)
    (agree : (s : S) (u : U) (v : T) → Match s u → ((turned s v).0 ≡ say (turned' u v).0) × Match (turned s v).1 (turned' u v).1) where
  pub answers_agree : (s : S) (u : U) → Match s u → (vs : List T) → answers_from turned s vs ≡ map say (answers_from turned' u vs)
  answers_agree s u h [] = refl
  answers_agree s u h (v ∷ vs) = let r = agree s u v h in λ i. r.0 i ∷ answers_agree (turned s v).1 (turned' u v).1 r.1 vs i

  pub standing_agree : (s : S) (u : U) → Match s u → (vs : List T) → Match (standing_after turned s vs) (standing_after turned' u vs)
  standing_agree s u h [] = h
  standing_agree s u h (v ∷ vs) = standing_agree (turned s v).1 (turned' u v).1 (agree s u v h).1 vs

-- The same over one kind of standings, of which P holds.
module _ {A B S T : Type 0} (say : B → A) (P : S → Type 0) (turned : S → T → A × S) (turned' : S → T → B × S)
    (alike : (s : S) (v : T) → P s → (turned s v ≡ (say (turned' s v).0, (turned' s v).1)) × P (turned' s v).1) where
  abbrev Match : S → S → Type 0
  Match s u = (s ≡ u) × P u

  each : (s u : S) (v : T) → Match s u → ((turned s v).0 ≡ say (turned' u v).0) × Match (turned s v).1 (turned' u v).1
  each s u v k =
      let a = alike u v k.1 in
      let e : turned s v ≡ (say (turned' u v).0, (turned' u v).1) = ap (λ z. turned z v) k.0 ∙ a.0 in
      (ap (λ r. r.0) e, (ap (λ r. r.1) e, a.1))

  pub answers_said : (s : S) → P s → (vs : List T) → answers_from turned s vs ≡ map say (answers_from turned' s vs)
  answers_said s h vs = answers_agree say Match turned turned' each s s (refl, h) vs

  pub standing_said : (s : S) → P s → (vs : List T) → standing_after turned s vs ≡ standing_after turned' s vs
  standing_said s h vs = (standing_agree say Match turned turned' each s s (refl, h) vs).0
