-- The lower low end and the higher high end are those of the smallest span around two.
use Rattle.std.proofs.Common.{◌≡◌, ℤ, ◌≤ℤ◌, Some, sym, refl, arith, w32, to_z, of_z}
use Rattle.std.specs.Int.{int_min, int_max}
use Rattle.std.proofs.lemmas.Int.{ints, clamps}
use Rattle.geometry.specs.Around.{lowest, highest, bounds_around, SmallestSpan, SmallestBox}
use Rattle.geometry.specs.Ends.{low_ends, high_ends}
use Rattle.geometry.specs.Range.{least_coordinate, most_coordinate}
use Rattle.geometry.specs.declared.bounds.Span.{Span}
use Rattle.geometry.specs.declared.bounds.Bounds.{Bounds}
use Rattle.geometry.proofs.Boxes.{same_point, same_box, box_made}

-- a number as the code passes it on
abbrev held : ℤ → ℤ
held x = to_z w32 (of_z w32 x)

pub lower : (s t : Span) (m : ℤ) → m ≡ int_min (held s.low) (held t.low) → held m ≡ int_min s.low t.low
lower s t m e = omega (arith, ints, clamps)

pub higher : (s t : Span) (m : ℤ) → m ≡ int_max (held s.high) (held t.high) → held m ≡ int_max s.high t.high
higher s t m e = omega (arith, ints, clamps)

pub around_least : (s t : Span) (l : ℤ) → l ≡ int_min s.low t.low → least_coordinate ≤ℤ l
around_least s t l e = omega (arith, ints, clamps)

pub around_ordered : (s t : Span) (l h : ℤ) → l ≡ int_min s.low t.low → h ≡ int_max s.high t.high → l ≤ℤ h
around_ordered s t l h e f = omega (arith, ints, clamps)

pub around_most : (s t : Span) (h : ℤ) → h ≡ int_max s.high t.high → h ≤ℤ most_coordinate
around_most s t h f = omega (arith, ints, clamps)

pub around_smallest : (s t r : Span) → r.low ≡ int_min s.low t.low → r.high ≡ int_max s.high t.high → SmallestSpan s t r
around_smallest s t r e f =
    record {
      one = (omega (arith, ints, clamps), omega (arith, ints, clamps));
      other = (omega (arith, ints, clamps), omega (arith, ints, clamps));
      least = λ u i j. (omega (arith, ints, clamps), omega (arith, ints, clamps));
    }

-- the span around two, as a value
pub span_over : Span → Span → Span
span_over s t =
    record {
      low = int_min s.low t.low;
      high = int_max s.high t.high;
      least = around_least s t _ refl;
      ordered = around_ordered s t _ _ refl refl;
      most = around_most s t _ refl;
    }

-- the box around two, as a value
pub box_over : Bounds → Bounds → Bounds
box_over a b =
    record {
      easting = span_over a.easting b.easting;
      northing = span_over a.northing b.northing;
      level = span_over a.level b.level;
    }

pub low_over : (a b : Bounds) → low_ends (box_over a b) ≡ lowest (low_ends a) (low_ends b)
unfolding box_over span_over
low_over a b = refl

pub high_over : (a b : Bounds) → high_ends (box_over a b) ≡ highest (high_ends a) (high_ends b)
unfolding box_over span_over
high_over a b = refl

pub around_is : (a b : Bounds) → bounds_around a b ≡ Some (box_over a b)
around_is a b = sym (box_made (box_over a b) _ _ (low_over a b) (high_over a b))

pub over_smallest : (a b : Bounds) → SmallestBox a b (box_over a b)
unfolding box_over span_over
over_smallest a b =
    let e = around_smallest a.easting b.easting (span_over a.easting b.easting) refl refl in
    let n = around_smallest a.northing b.northing (span_over a.northing b.northing) refl refl in
    let l = around_smallest a.level b.level (span_over a.level b.level) refl refl in
    record {
      one = (e.one, n.one, l.one);
      other = (e.other, n.other, l.other);
      least = λ c i j. (e.least c.easting i.0 j.0, n.least c.northing i.1 j.1, l.least c.level i.2 j.2);
    }

min_assoc : (x y z : ℤ) → int_min (int_min x y) z ≡ int_min x (int_min y z)
min_assoc x y z = omega (arith, ints, clamps)

max_assoc : (x y z : ℤ) → int_max (int_max x y) z ≡ int_max x (int_max y z)
max_assoc x y z = omega (arith, ints, clamps)

-- it does not matter which two are taken together first
pub over_assoc : (a b c : Bounds) → box_over (box_over a b) c ≡ box_over a (box_over b c)
unfolding box_over span_over
over_assoc a b c =
    same_box (box_over (box_over a b) c) (box_over a (box_over b c))
    (same_point _ _ (min_assoc a.easting.low b.easting.low c.easting.low) (min_assoc a.northing.low b.northing.low c.northing.low) (min_assoc a.level.low b.level.low c.level.low))
    (same_point _ _ (max_assoc a.easting.high b.easting.high c.easting.high) (max_assoc a.northing.high b.northing.high c.northing.high) (max_assoc a.level.high b.level.high c.level.high))
