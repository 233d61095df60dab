-- One glance after another, until a glance answers.
use Rattle.std.specs.Prelude.{ℕ, zero, suc}

-- A glance answers and is done, or goes on from where it then stands.
pub data Glance (A S : Type 0) : Type 0 where
  done : A → S → Glance A S
  on : S → Glance A S

abbrev pub onward : {A S : Type 0} → (S → Glance A S) → Glance A S → Glance A S
onward k (done a s) = done a s
onward k (on s) = k s

-- What glance after glance comes to, if at most n of them may go on. `on s` if the one at s would be one too many.
abbrev pub follow : {A S : Type 0} → (S → Glance A S) → ℕ → S → Glance A S
follow glance zero s = onward (λ _. on s) (glance s)
follow glance (suc n) s = onward (follow glance n) (glance s)

-- the answer, or what is said where glances were cut short
abbrev pub finish : {A S : Type 0} → (S → A) → Glance A S → A × S
finish short (done a s) = (a, s)
finish short (on s) = (short s, s)
