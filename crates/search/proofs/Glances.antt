-- Glances that follow one another: how many are allowed does not show once they are done, and two kinds of glances that keep step.
use Rattle.std.proofs.Common.{◌≡◌, ℕ, zero, suc, ◌≤◌, sym, refl, ap, ◌∙◌, subst, arith}
use Rattle.search.specs.Glances.{Glance, done, on, onward, follow, finish}

-- it is done, with an answer and a standing of which P holds
abbrev pub Ends : {A S : Type 0} → (A → S → Type 0) → Glance A S → Type 0
Ends P (done a s) = P a s
Ends P (on s) = ⊥

pub ends_finish : {A S : Type 0} (P : A → S → Type 0) (short : S → A) (l : Glance A S) → Ends P l → P (finish short l).0 (finish short l).1
ends_finish P short (done a s) h = h
ends_finish P short (on s) h = absurd h

module _ {A S : Type 0} (P : A → S → Type 0) (glance : S → Glance A S) where
  onward_enough : (k k' : S → Glance A S) → ((s : S) → Ends P (k s) → k' s ≡ k s) → (l : Glance A S) → Ends P (onward k l) → onward k' l ≡ onward k l
  onward_enough k k' f (done a s) h = refl
  onward_enough k k' f (on s) h = f s h

  -- once glances are done, a larger allowance changes nothing
  pub follow_enough : (m n : ℕ) (s : S) → m ≤ n → Ends P (follow glance m s) → follow glance n s ≡ follow glance m s
  follow_enough zero zero s i h = refl
  follow_enough zero (suc n) s i h = onward_enough (λ _. on s) (follow glance n) (λ u k. absurd k) (glance s) h
  follow_enough (suc m) zero s i h = absurd (omega arith)
  follow_enough (suc m) (suc n) s i h = onward_enough (follow glance m) (follow glance n) (λ u k. follow_enough m n u (omega arith) k) (glance s) h

-- wherever it leads, P holds there
abbrev pub Leads : {A S : Type 0} → (S → Type 0) → Glance A S → Type 0
Leads P (done a s) = P s
Leads P (on s) = P s

pub leads_finish : {A S : Type 0} (P : S → Type 0) (short : S → A) (l : Glance A S) → Leads P l → P (finish short l).1
leads_finish P short (done a s) h = h
leads_finish P short (on s) h = h

module _ {A S : Type 0} (P : S → Type 0) (glance : S → Glance A S) (leads : (s : S) → P s → Leads P (glance s)) where
  leads_onward : (k : S → Glance A S) → ((s : S) → P s → Leads P (k s)) → (l : Glance A S) → Leads P l → Leads P (onward k l)
  leads_onward k f (done a s) h = h
  leads_onward k f (on s) h = f s h

  pub leads_follow : (n : ℕ) (s : S) → P s → Leads P (follow glance n s)
  leads_follow zero s h = leads_onward (λ _. on s) (λ _ _. h) (glance s) (leads s h)
  leads_follow (suc n) s h = leads_onward (follow glance n) (leads_follow n) (glance s) (leads s h)

-- Two kinds of glances, over standings that match: each answer of the one is what `say` makes of the other's.
module _ {A B S U : Type 0} (say : B → A) (Match : S → U → Type 0) where
  abbrev pub Agree : Glance A S → Glance B U → Type 0
  Agree (done a s) (done b u) = (a ≡ say b) × Match s u
  Agree (done a s) (on u) = ⊥
  Agree (on s) (done b u) = ⊥
  Agree (on s) (on u) = Match s u

  pub finish_agree : (short : S → A) (short' : U → B) → ((s : S) (u : U) → Match s u → short s ≡ say (short' u)) → (l : Glance A S) (k : Glance B U) → Agree l k →
      ((finish short l).0 ≡ say (finish short' k).0) × Match (finish short l).1 (finish short' k).1
  finish_agree short short' f (done a s) (done b u) h = h
  finish_agree short short' f (done a s) (on u) h = absurd h
  finish_agree short short' f (on s) (done b u) h = absurd h
  finish_agree short short' f (on s) (on u) h = (f s u h, h)

  onward_agree : (k : S → Glance A S) (k' : U → Glance B U) → ((s : S) (u : U) → Match s u → Agree (k s) (k' u)) → (l : Glance A S) (l' : Glance B U) → Agree l l' → Agree (onward k l) (onward k' l')
  onward_agree k k' f (done a s) (done b u) h = h
  onward_agree k k' f (done a s) (on u) h = absurd h
  onward_agree k k' f (on s) (done b u) h = absurd h
  onward_agree k k' f (on s) (on u) h = f s u h

  module _ (glance : S → Glance A S) (glance' : U → Glance B U) (agree : (s : S) (u : U) → Match s u → Agree (glance s) (glance' u)) where
    pub follow_agree : (n : ℕ) (s : S) (u : U) → Match s u → Agree (follow glance n s) (follow glance' n u)
    follow_agree zero s u h = onward_agree (λ _. on s) (λ _. on u) (λ _ _ _. h) (glance s) (glance' u) (agree s u h)
    follow_agree (suc n) s u h = onward_agree (follow glance n) (follow glance' n) (follow_agree n) (glance s) (glance' u) (agree s u h)

-- The same over one kind of standings, of which P holds: one kind of glances is the other with its answers put another way.
abbrev pub said : {A B S : Type 0} → (B → A) → Glance B S → Glance A S
said say (done b s) = done (say b) s
said say (on s) = on s

module _ {A B S : Type 0} (say : B → A) (P : S → Type 0) where
  abbrev Match : S → S → Type 0
  Match s u = (s ≡ u) × P u

  agree_said : (l : Glance B S) → Leads P l → Agree say Match (said say l) l
  agree_said (done b s) h = (refl, (refl, h))
  agree_said (on s) h = (refl, h)

  pub finish_said : (glance : S → Glance A S) (glance' : S → Glance B S) → ((s : S) → P s → (glance s ≡ said say (glance' s)) × Leads P (glance' s)) →
      (short : S → A) (short' : S → B) → ((s : S) → short s ≡ say (short' s)) → (n : ℕ) (s : S) → P s →
      (finish short (follow glance n s) ≡ (say (finish short' (follow glance' n s)).0, (finish short' (follow glance' n s)).1)) × P (finish short' (follow glance' n s)).1
  finish_said glance glance' alike short short' shorts n s h =
      let r = finish_agree say Match short short' (λ u v k. ap short k.0 ∙ shorts v) (follow glance n s) (follow glance' n s) (follow_agree say Match glance glance' each n s s (refl, h)) in
      ((λ i. (r.0 i, r.1.0 i)), r.1.1)
    where
      each : (u v : S) → Match u v → Agree say Match (glance u) (glance' v)
      each u v k =
          let a = alike v k.1 in
          subst (λ l. Agree say Match l (glance' v)) (sym (ap glance k.0 ∙ a.0)) (agree_said (glance' v) a.1)
