-- Gaps by axis, and then any way of putting three of them together that grows with each.
use Rattle.std.specs.Prelude.{◌≡◌, ℕ, ◌^◌, ◌<◌, ◌≤◌, ℤ}
use Rattle.std.proofs.Common.{sym, subst, arith}
use Rattle.std.proofs.lemmas.Int.{ints, by_lt_z}
use Rattle.std.proofs.lemmas.Nat.{mul-le}
use Rattle.geometry.specs.Gap.{gap}
use Rattle.geometry.specs.Range.{widest}
use Rattle.geometry.specs.Within.{Inside, Within, On}
use Rattle.geometry.specs.Distance.{Way, sum_of_squares, sum_of, greatest_of, box_distance}
use Rattle.geometry.specs.Nearest.{apart, Least}
use Rattle.geometry.specs.declared.bounds.Span.{Span}
use Rattle.geometry.specs.declared.bounds.Bounds.{Bounds}

gap_mono : (q o i : Span) → Inside i o → gap q o ≤ gap q i
gap_mono q o i h = omega (arith, ints)

pub gap_most : (q b : Span) → gap q b ≤ widest
gap_most q b = omega (arith, ints)

gap_under : (q b : Span) (x y : ℤ) → On x q → On y b → gap q b ≤ apart x y
gap_under q b x y h k = omega (arith, ints)

-- where two spans come nearest to each other
pub record Met (q b : Span) : Type 0 where
  pub here : ℤ
  pub there : ℤ
  pub here_on : On here q
  pub there_on : On there b
  pub is_gap : apart here there ≡ gap q b

met : (q b : Span) → Met q b
met q b =
    by_lt_z q.high b.low
    (λ h. record { here = q.high; there = b.low; here_on = (omega (arith, ints), omega (arith, ints)); there_on = (omega (arith, ints), omega (arith, ints)); is_gap = omega (arith, ints) })
    (λ h.
    by_lt_z b.high q.low
    (λ k. record { here = q.low; there = b.high; here_on = (omega (arith, ints), omega (arith, ints)); there_on = (omega (arith, ints), omega (arith, ints)); is_gap = omega (arith, ints) })
    (λ k.
    by_lt_z q.low b.low
    (λ l. record { here = b.low; there = b.low; here_on = (omega (arith, ints), omega (arith, ints)); there_on = (omega (arith, ints), omega (arith, ints)); is_gap = omega (arith, ints) })
    (λ l. record { here = q.low; there = q.low; here_on = (omega (arith, ints), omega (arith, ints)); there_on = (omega (arith, ints), omega (arith, ints)); is_gap = omega (arith, ints) })))

-- a way of putting three numbers together that grows with each
abbrev pub Grows : Way → Type 0
Grows f = (a b c d e g : ℕ) → a ≤ d → b ≤ e → c ≤ g → f a b c ≤ f d e g

pub squares_grow : Grows sum_of_squares
squares_grow a b c d e g p q r = omega (arith, mul-le a a d d p p, mul-le b b e e q q, mul-le c c g g r r)

pub sum_grows : Grows sum_of
sum_grows a b c d e g p q r = omega arith

pub greatest_grows : Grows greatest_of
greatest_grows a b c d e g p q r = omega arith

pub monotone : (f : Way) → Grows f → (q o i : Bounds) → Within i o → box_distance f q o ≤ box_distance f q i
unfolding box_distance
monotone f grow q o i w =
    grow _ _ _ _ _ _ (gap_mono q.easting o.easting i.easting w.0)
    (gap_mono q.northing o.northing i.northing w.1) (gap_mono q.level o.level i.level w.2)

-- no measure that grows gives more than it does at the widest gaps
pub most : (f : Way) → Grows f → (q b : Bounds) → box_distance f q b ≤ f widest widest widest
unfolding box_distance
most f grow q b =
    grow _ _ _ _ _ _ (gap_most q.easting b.easting) (gap_most q.northing b.northing) (gap_most q.level b.level)

pub fits : (f : Way) → Grows f → f widest widest widest < 2 ^ 64 → (q b : Bounds) → box_distance f q b < 2 ^ 64
fits f grow small q b = omega (arith, most f grow q b)

pub squares_small : sum_of_squares widest widest widest < 2 ^ 64
squares_small = omega arith

pub sum_small : sum_of widest widest widest < 2 ^ 64
sum_small = omega arith

pub greatest_small : greatest_of widest widest widest < 2 ^ 64
greatest_small = omega arith

same_by : (f : Way) {a b c d e g : ℕ} → a ≡ d → b ≡ e → c ≡ g → f a b c ≡ f d e g
same_by f p q r = cc

least : (f : Way) → Grows f → (q b : Bounds) → Least f q b (box_distance f q b)
unfolding box_distance
least f grow q b =
    let e = met q.easting b.easting in
    let n = met q.northing b.northing in
    let l = met q.level b.level in
    record {
      no_nearer = λ p r i j.
          grow _ _ _ _ _ _ (gap_under q.easting b.easting p.easting r.easting i.0 j.0)
          (gap_under q.northing b.northing p.northing r.northing i.1 j.1)
          (gap_under q.level b.level p.level r.level i.2 j.2);
      attained = (
        record { easting = e.here; northing = n.here; level = l.here },
        record { easting = e.there; northing = n.there; level = l.there },
        (e.here_on, n.here_on, l.here_on),
        (e.there_on, n.there_on, l.there_on),
        same_by f e.is_gap n.is_gap l.is_gap,
      );
    }

pub least_of : (f : Way) → Grows f → (q b : Bounds) (r : ℕ) → r ≡ box_distance f q b → Least f q b r
least_of f grow q b r e = subst (Least f q b) (sym e) (least f grow q b)
