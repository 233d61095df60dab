-- A span is its two ends: the facts that it carries do not tell two spans apart.
use Rattle.std.proofs.Common.{◌≡◌, Bool, true, false, T, ℤ, ◌≤ℤ◌, Some, None, Option, sym, refl, ap, ◌∙◌}
use lib.Signed.{le_z_yes}
use Rattle.geometry.specs.Range.{least_coordinate, most_coordinate}
use Rattle.geometry.specs.Bounds.{given, span_at}
use Rattle.geometry.specs.declared.bounds.Span.{Span}

given_yes : {A : Type 0} (b : Bool) (make : T b → Option A) (p : T b) → given b make ≡ make p
given_yes true make tt = refl
given_yes false make p = absurd p

given_none : {A : Type 0} (b : Bool) (make : T b → Option A) → ((p : T b) → None ≡ make p) → None ≡ given b make
given_none true make h = h tt
given_none false make h = refl

pub span_at_lem : (s : Span) → span_at s.low s.high ≡ Some s
unfolding span_at
span_at_lem s =
    given_yes _ _ s.least.le ∙ given_yes _ _ s.ordered.le ∙ given_yes _ _ s.most.le

pub made : (s : Span) (l h : ℤ) → s.low ≡ l → s.high ≡ h → Some s ≡ span_at l h
made s l h p q = sym (span_at_lem s) ∙ ap (λ x. span_at x s.high) p ∙ ap (span_at l) q

pub no_span : (l h : ℤ) → (least_coordinate ≤ℤ l → l ≤ℤ h → h ≤ℤ most_coordinate → ⊥) → None ≡ span_at l h
unfolding span_at
no_span l h none =
    given_none _ _ (λ a. given_none _ _ (λ b. given_none _ _ (λ c. absurd (none (le_z_yes a) (le_z_yes b) (le_z_yes c)))))
