-- Boxes moved by nothing, there and back, and twice.
use Rattle.std.specs.Prelude.{◌≡◌, true, is_some, Some, None, Option, refl}
use Rattle.std.proofs.lemmas.Bool.{false≢true}
use Rattle.std.proofs.Common.{sym, ◌∙◌, ap, arith}
use Rattle.std.proofs.lemmas.Int.{ints}
use Rattle.geometry.specs.Bounds.{bounds_at}
use Rattle.geometry.specs.Ends.{low_ends, high_ends}
use Rattle.geometry.specs.Moved.{moved_point, moved_bounds}
use Rattle.geometry.specs.declared.bounds.Point.{Point}
use Rattle.geometry.specs.declared.bounds.Bounds.{Bounds}
use Rattle.geometry.proofs.Boxes.{same_point, box_made, box_ends, bounds_at_lem}
use Rattle.makes.specs.Offset.{no_move, opposite}

point_none : (p : Point) → p ≡ moved_point p no_move
point_none p = same_point p (moved_point p no_move) (omega (arith, ints)) (omega (arith, ints)) (omega (arith, ints))

point_back : (p by : Point) → moved_point (moved_point p by) (opposite by) ≡ p
point_back p by =
    same_point (moved_point (moved_point p by) (opposite by)) p (omega (arith, ints)) (omega (arith, ints)) (omega (arith, ints))

point_twice : (p by next : Point) → moved_point (moved_point p by) next ≡ moved_point p (moved_point by next)
point_twice p by next =
    same_point (moved_point (moved_point p by) next) (moved_point p (moved_point by next)) (omega (arith, ints)) (omega (arith, ints)) (omega (arith, ints))

pub move_none : (b : Bounds) → moved_bounds b no_move ≡ Some b
move_none b = sym (box_made b _ _ (point_none (low_ends b)) (point_none (high_ends b)))

-- a box moved once, and from there again, is moved by both at once
pub move_twice : (b once : Bounds) (by next : Point) → moved_bounds b by ≡ Some once → moved_bounds once next ≡ moved_bounds b (moved_point by next)
move_twice b once by next e =
    let ends = box_ends _ _ once e in
    let low = ap (λ p. moved_point p next) ends.0 ∙ point_twice (low_ends b) by next in
    let high = ap (λ p. moved_point p next) ends.1 ∙ point_twice (high_ends b) by next in
    ap (λ p. bounds_at p (moved_point (high_ends once) next)) low ∙ ap (bounds_at (moved_point (low_ends b) (moved_point by next))) high

pub move_back : (b once : Bounds) (by : Point) → moved_bounds b by ≡ Some once → moved_bounds once (opposite by) ≡ Some b
move_back b once by e =
    let ends = box_ends _ _ once e in
    let low = ap (λ p. moved_point p (opposite by)) ends.0 ∙ point_back (low_ends b) by in
    let high = ap (λ p. moved_point p (opposite by)) ends.1 ∙ point_back (high_ends b) by in
    ap (λ p. bounds_at p (moved_point (high_ends once) (opposite by))) low ∙ ap (bounds_at (low_ends b)) high ∙ bounds_at_lem b

pub there : {A : Type 0} (o : Option A) → is_some o ≡ true → (x : A) × (o ≡ Some x)
there (Some x) e = (x, refl)
there None e = absurd (false≢true e)
