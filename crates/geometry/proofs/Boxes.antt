-- A box is its two corners.
use Rattle.std.proofs.Common.{◌≡◌, Bool, true, false, T, ℤ, Some, None, Option, sym, refl, ap, ◌∙◌}
use lib.Signed.{le_z}
use Rattle.geometry.specs.Bounds.{given, span_at, bounds_at}
use Rattle.geometry.specs.Range.{least_coordinate, most_coordinate}
use Rattle.geometry.specs.Ends.{low_ends, high_ends}
use Rattle.geometry.specs.declared.bounds.Point.{Point}
use Rattle.geometry.specs.declared.bounds.Span.{Span}
use Rattle.geometry.specs.declared.bounds.Bounds.{Bounds}
use Rattle.geometry.proofs.Spans.{span_at_lem}

-- an option is nothing or something
pub by_option : {A P : Type 0} (o : Option A) → (o ≡ None → P) → ((x : A) → o ≡ Some x → P) → P
by_option None none some = none refl
by_option (Some x) none some = some x refl

abbrev Ends : Span → ℤ → ℤ → Type 0
Ends s l h = (s.low ≡ l) × (s.high ≡ h)

ends_by : (a b c : Bool) (make : T a → T b → T c → Span) (l h : ℤ) → ((p : T a) (q : T b) (r : T c) → Ends (make p q r) l h) → (s : Span) → given a (λ p. given b (λ q. given c (λ r. Some (make p q r)))) ≡ Some s → Ends s l h
ends_by true true true make l h ends s e =
    let same : make tt tt tt ≡ s = cc in
    (sym (ap (λ (t : Span). t.low) same) ∙ (ends tt tt tt).0, sym (ap (λ (t : Span). t.high) same) ∙ (ends tt tt tt).1)
ends_by true true false make l h ends s e = cc
ends_by true false c make l h ends s e = cc
ends_by false b c make l h ends s e = cc

pub span_ends : (l h : ℤ) (s : Span) → span_at l h ≡ Some s → (s.low ≡ l) × (s.high ≡ h)
unfolding span_at
span_ends l h s e =
    ends_by (le_z least_coordinate l) (le_z l h) (le_z h most_coordinate)
    (λ a b c. record { low = l; high = h; least = record { le = a }; ordered = record { le = b }; most = record { le = c } })
    l h (λ p q r. (refl, refl)) s e

pub same_point : (p q : Point) → p.easting ≡ q.easting → p.northing ≡ q.northing → p.level ≡ q.level → p ≡ q
same_point p q e n l = λ i. record { easting = e i; northing = n i; level = l i }

pub bounds_at_lem : (b : Bounds) → bounds_at (low_ends b) (high_ends b) ≡ Some b
bounds_at_lem b = rw (span_at_lem b.easting, span_at_lem b.northing, span_at_lem b.level)

pub box_made : (b : Bounds) (lo hi : Point) → low_ends b ≡ lo → high_ends b ≡ hi → Some b ≡ bounds_at lo hi
box_made b lo hi p q = sym (bounds_at_lem b) ∙ ap (λ x. bounds_at x (high_ends b)) p ∙ ap (bounds_at lo) q

pub same_box : (a b : Bounds) → low_ends a ≡ low_ends b → high_ends a ≡ high_ends b → a ≡ b
same_box a b p q = cc (box_made a (low_ends b) (high_ends b) p q, bounds_at_lem b)

pub box_ends : (lo hi : Point) (b : Bounds) → bounds_at lo hi ≡ Some b → (low_ends b ≡ lo) × (high_ends b ≡ hi)
box_ends lo hi b e =
    by_option (span_at lo.easting hi.easting) (λ p. cc (rw p at e))
    (λ x p. by_option (span_at lo.northing hi.northing) (λ q. cc (rw (p, q) at e))
    (λ y q. by_option (span_at lo.level hi.level) (λ r. cc (rw (p, q, r) at e))
    (λ z r.
    let same : record { easting = x; northing = y; level = z } ≡ b = cc (rw (p, q, r) at e) in
    let i = span_ends _ _ x p in
    let j = span_ends _ _ y q in
    let k = span_ends _ _ z r in
    (ap low_ends (sym same) ∙ same_point _ lo i.0 j.0 k.0, ap high_ends (sym same) ∙ same_point _ hi i.1 j.1 k.1))))
