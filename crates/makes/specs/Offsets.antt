-- Amounts as the code holds them, and what two of them make.
use Rattle.std.specs.Prelude.{◌≡◌, Bool, true, false, ℤ, pos, ◌+ℤ◌, ◌-ℤ◌, neg_ℤ, ◌≤ℤ◌, Ok, Err, Result, int_le, refl}
use Rattle.std.proofs.Common.{sym, ◌∙◌, ap, to_z, of_z, arith}
use Rattle.std.specs.Int.{w32}
use Rattle.std.proofs.lemmas.Int.{ints}
use Rattle.std.proofs.lemmas.Bool.{and_parts, and_from}
use Rattle.refusal.specs.Told.{plain, answered, typing_told}
use Rattle.refusal.specs.declared.hands.TypingFault.{TypingFault}
use Rattle.geometry.specs.Bounds.{point_in_range}
use Rattle.geometry.specs.Moved.{moved_point}
use Rattle.geometry.specs.Range.{least_coordinate, most_coordinate, in_range}
use Rattle.geometry.specs.declared.bounds.Point.{Point}
use Rattle.geometry.proofs.Boxes.{same_point}
use Rattle.makes.specs.Tested.{tested}
use Rattle.makes.specs.Offset.{offset_of, opposite}
use Rattle.makes.specs.Shift.{AtOnce}
use Rattle.makes.specs.declared.offset.Offset.{Offset}
use Rattle.makes.specs.TestedLemmas.{tested_yes, tested_no}
use Rattle.makes.specs.Shifts.{shift_twice}

-- a number as the code passes it on
abbrev held : ℤ → ℤ
held x = to_z w32 (of_z w32 x)

abbrev InRange : ℤ → Type 0
InRange x = (least_coordinate ≤ℤ x) × (x ≤ℤ most_coordinate)

in_range_lem : (x : ℤ) → in_range x ≡ true → InRange x
in_range_lem x e = let b = and_parts (int_le least_coordinate x) (int_le x most_coordinate) e in (grind (arith, ints), grind (arith, ints))

is_range : (x : ℤ) → InRange x → in_range x ≡ true
is_range x h = grind (arith, ints)

pub ranges : (p : Point) → point_in_range p ≡ true → InRange p.easting × InRange p.northing × InRange p.level
ranges p e =
    let a = and_parts (in_range p.easting) _ e in
    let b = and_parts (in_range p.northing) (in_range p.level) a.1 in
    (in_range_lem p.easting a.0, in_range_lem p.northing b.0, in_range_lem p.level b.1)

pub range_of : (p : Point) → InRange p.easting → InRange p.northing → InRange p.level → point_in_range p ≡ true
range_of p x y z = and_from _ _ (is_range p.easting x) (and_from _ _ (is_range p.northing y) (is_range p.level z))

-- what the code makes of the opposite amounts
abbrev turned : Point → Point
turned p =
    record {
      easting = held (pos 0 -ℤ held p.easting);
      northing = held (pos 0 -ℤ held p.northing);
      level = held (pos 0 -ℤ held p.level);
    }

pub held_in : (x : ℤ) → InRange x → InRange (held x)
held_in x h = (omega (arith, ints), omega (arith, ints))

pub turned_in : (x : ℤ) → InRange x → InRange (held (pos 0 -ℤ held x))
turned_in x h = (omega (arith, ints), omega (arith, ints))

turn : (x : ℤ) → InRange x → held (pos 0 -ℤ held x) ≡ neg_ℤ x
turn x h = omega (arith, ints)

pub turned_is : (o : Offset) → turned o.by ≡ opposite o.by
turned_is o =
    let r = ranges o.by o.tested in
    same_point (turned o.by) (opposite o.by) (turn o.by.easting r.0) (turn o.by.northing r.1) (turn o.by.level r.2)

-- what the code makes of two amounts
abbrev added : Point → Point → Point
added p q =
    record {
      easting = held (held p.easting +ℤ held q.easting);
      northing = held (held p.northing +ℤ held q.northing);
      level = held (held p.level +ℤ held q.level);
    }

add : (x y : ℤ) → InRange x → InRange y → held (held x +ℤ held y) ≡ x +ℤ y
add x y h k = omega (arith, ints)

pub added_is : (o next : Offset) → added o.by next.by ≡ moved_point o.by next.by
added_is o next =
    let r = ranges o.by o.tested in
    let s = ranges next.by next.tested in
    same_point (added o.by next.by) (moved_point o.by next.by)
    (add o.by.easting next.by.easting r.0 s.0)
    (add o.by.northing next.by.northing r.1 s.1)
    (add o.by.level next.by.level r.2 s.2)

pub made_offset : (o : Offset) → Ok o ≡ offset_of o.by
unfolding offset_of
made_offset o = sym (tested_yes 7 (point_in_range o.by) (λ t. Ok (record { by = o.by; tested = t })) o.tested)

pub no_offset : (by : Point) → point_in_range by ≡ false → Err (plain 7) ≡ offset_of by
unfolding offset_of
no_offset by e = sym (tested_no 7 (point_in_range by) (λ t. Ok (record { by = by; tested = t })) e)

ok_by : (by : Point) (b : Bool) (make : b ≡ true → Offset) → ((p : b ≡ true) → (make p).by ≡ by) → (o : Offset) → Ok o ≡ tested 7 b (λ p. Ok (make p)) → o.by ≡ by
ok_by by true make h o e = let same : o ≡ make refl = cc in ap (λ (x : Offset). x.by) same ∙ h refl
ok_by by false make h o e = cc

-- an offset that was made has the amounts it was made from
pub offset_by : (by : Point) (o : Offset) → Ok o ≡ offset_of by → o.by ≡ by
unfolding offset_of
offset_by by o e = ok_by by (point_in_range by) (λ t. record { by = by; tested = t }) (λ p. refl) o e

pub at_once : (by next : Point) (r : Result Offset TypingFault) → answered typing_told r ≡ offset_of (moved_point by next) → AtOnce by next r
at_once by next (Ok both) e = shift_twice by next both.by (offset_by (moved_point by next) both e)
at_once by next (Err fault) e = tt
