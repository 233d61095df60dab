-- Collars in range, and the box around a run of them.
use Rattle.std.specs.Prelude.{◌≡◌, ℕ, zero, suc, ◌+◌, ◌-◌, ◌*◌, ◌<◌, ◌≤◌, true, false, ◌&&◌, map, take, drop, ℤ, pos, ◌-ℤ◌, ◌≤ℤ◌, Some, Ok, Err, Option, nat_le}
use Rattle.std.proofs.Math.Path.{refl}
use Rattle.std.proofs.Common.{sym, ◌∙◌, ap, arith, zero-add, to_z, of_z}
use Rattle.std.proofs.lemmas.Nat.{mul-le}
use Rattle.std.specs.List.{range_with_len}
use Rattle.std.specs.Int.{int_min, int_max, w32}
use Rattle.std.proofs.lemmas.List.FromFn.{take-map-range_with_len}
use Rattle.std.proofs.lemmas.List.{drop-map}
use Rattle.std.proofs.lemmas.Int.{ints, clamps}
use Rattle.std.proofs.lemmas.Bool.{and_parts, leb-true}
use Rattle.refusal.specs.Told.{plain}
use Rattle.geometry.specs.Around.{lowest, highest}
use Rattle.geometry.specs.Bounds.{bounds_at, point_in_range}
use Rattle.geometry.specs.Ends.{low_ends, high_ends}
use Rattle.geometry.specs.Range.{least_coordinate, most_coordinate}
use Rattle.geometry.specs.declared.bounds.Point.{Point}
use Rattle.geometry.specs.declared.bounds.Span.{Span}
use Rattle.geometry.specs.declared.bounds.Bounds.{Bounds}
use Rattle.geometry.proofs.Boxes.{same_point, box_made}
use Rattle.makes.specs.Smallest.{around_both, smallest}
use Rattle.makes.specs.Tally.{sized, collar_at, hangs, collar_boxes}
use Rattle.makes.specs.Tallies.{tally_of}
use Rattle.makes.specs.declared.tally.Joints.{Joints}
use Rattle.makes.specs.declared.tally.Tally.{Tally}
use Rattle.makes.specs.Offsets.{ranges}
use Rattle.makes.specs.Smallests.{around_none}
use Rattle.makes.specs.TestedLemmas.{tested_yes, tested_no}

pub record Sized (joints long : ℕ) : Type 0 where
  pub some : 0 < joints
  pub few : joints ≤ 1000
  pub long_some : 0 < long
  pub short : long ≤ 5000

pub sizes_of_lem : (joints long : ℕ) → sized joints long ≡ true → Sized joints long
sizes_of_lem joints long e =
    let a = and_parts (nat_le 1 joints && nat_le joints 1000) (nat_le 1 long && nat_le long 5000) e in
    let b = and_parts (nat_le 1 joints) (nat_le joints 1000) a.0 in
    let c = and_parts (nat_le 1 long) (nat_le long 5000) a.1 in
    record { some = leb-true 1 joints b.0; few = leb-true joints 1000 b.1; long_some = leb-true 1 long c.0; short = leb-true long 5000 c.1 }

-- how far down a joint can be
pub down_most : (j long : ℕ) → j < 1000 → long ≤ 5000 → j * long ≤ 4995000
down_most j long h k = mul-le j long 999 5000 (omega arith) k

pub down_joint : (s : Joints) (j : ℕ) → j < s.count → j * s.length ≤ 4995000
down_joint s j h = let sizes = sizes_of_lem s.count s.length s.sizes in down_most j s.length (omega (arith, sizes.few)) sizes.short

pub east_is : (x : ℤ) → (least_coordinate ≤ℤ x) × (x ≤ℤ most_coordinate) → to_z w32 (of_z w32 x) ≡ x
east_is x r = omega (arith, ints)

-- the collar as the code comes to it
pub collar_is : (top : Point) (long j : ℕ) → point_in_range top ≡ true → j * long ≤ 4995000 → to_z w32 (of_z w32 (to_z w32 (of_z w32 top.level) -ℤ to_z w32 (j * long))) ≡ top.level -ℤ pos (j * long)
collar_is top long j e h = let r = ranges top e in omega (arith, ints, r.2)

pub made_tally : (t : Tally) → Ok t ≡ tally_of t.top t.joints.count t.joints.length
unfolding tally_of
made_tally t =
    sym (tested_yes 24 (sized t.joints.count t.joints.length) _ t.joints.sizes
    ∙ tested_yes 5 (hangs t.top t.joints.count t.joints.length) (λ h. Ok (record { top = t.top; joints = t.joints; hung = h })) t.hung)

pub not_sized : (top : Point) (joints long : ℕ) → sized joints long ≡ false → Err (plain 24) ≡ tally_of top joints long
unfolding tally_of
not_sized top joints long e = sym (tested_no 24 (sized joints long) _ e)

pub not_hung : (top : Point) (joints long : ℕ) → sized joints long ≡ true → hangs top joints long ≡ false → Err (plain 5) ≡ tally_of top joints long
unfolding tally_of
not_hung top joints long s e =
    sym (tested_yes 24 (sized joints long) _ s
    ∙ tested_no 5 (hangs top joints long) (λ h. Ok (record { top = top; joints = record { count = joints; length = long; sizes = s }; hung = h })) e)

-- joint k hangs in range
abbrev pub Hung : Point → ℕ → ℕ → Type 0
Hung top long k = (point_in_range top ≡ true) × (least_coordinate ≤ℤ (top.level -ℤ pos (k * long)))

deeper : (j k long : ℕ) → j ≤ k → j * long ≤ k * long
deeper j k long h = mul-le j long k long h (omega arith)

pub hung_at : (t : Tally) (k : ℕ) → k < t.joints.count → Hung t.top t.joints.length k
hung_at t k h =
    let parts = and_parts (point_in_range t.top) (point_in_range (collar_at t.top t.joints.length (t.joints.count - 1))) t.hung in
    let low = (ranges (collar_at t.top t.joints.length (t.joints.count - 1)) parts.1).2 in
    let less = deeper k (t.joints.count - 1) t.joints.length (omega arith) in
    (parts.0, omega (arith, ints, low.0, less))

-- the box from one collar down to another
module _ (top : Point) (long j k : ℕ) (le : j ≤ k) (hung : Hung top long k) where
  flat : (x : ℤ) → (least_coordinate ≤ℤ x) × (x ≤ℤ most_coordinate) → Span
  flat x r = record { low = x; high = x; least = r.0; ordered = omega (arith, ints); most = r.1 }

  pub box_down : Bounds
  box_down =
      let r = ranges top hung.0 in
      record {
        easting = flat top.easting r.0;
        northing = flat top.northing r.1;
        level =
            record {
              low = top.level -ℤ pos (k * long);
              high = top.level -ℤ pos (j * long);
              least = hung.1;
              ordered = omega (arith, ints, deeper j k long le);
              most = omega (arith, ints, r.2);
            };
      }

  low_down : low_ends box_down ≡ collar_at top long k
  unfolding box_down flat
  low_down = refl

  high_down : high_ends box_down ≡ collar_at top long j
  unfolding box_down flat
  high_down = refl

  pub down_is : bounds_at (collar_at top long k) (collar_at top long j) ≡ Some box_down
  down_is = sym (box_made box_down (collar_at top long k) (collar_at top long j) low_down high_down)

min_same : (x : ℤ) → x ≡ int_min x x
min_same x = omega (arith, ints, clamps)

max_same : (x : ℤ) → x ≡ int_max x x
max_same x = omega (arith, ints, clamps)

min_down : (x : ℤ) (a b : ℕ) → a ≤ b → x -ℤ pos b ≡ int_min (x -ℤ pos a) (x -ℤ pos b)
min_down x a b h = omega (arith, ints, clamps)

max_down : (x : ℤ) (a b : ℕ) → a ≤ b → x -ℤ pos a ≡ int_max (x -ℤ pos a) (x -ℤ pos b)
max_down x a b h = omega (arith, ints, clamps)

-- a collar and the box from the next one down
around_next : (top : Point) (long a k : ℕ) → a + 1 ≤ k → Hung top long k → around_both (bounds_at (collar_at top long a) (collar_at top long a)) (bounds_at (collar_at top long k) (collar_at top long (a + 1))) ≡ bounds_at (collar_at top long k) (collar_at top long a)
around_next top long a k le hung =
    let less : a ≤ k = omega arith in
    let here : Hung top long a = (hung.0, omega (arith, ints, hung.1, deeper a k long less)) in
    let one = box_down top long a a (omega arith) here in
    let rest = box_down top long (a + 1) k le hung in
    let low : lowest (low_ends one) (low_ends rest) ≡ collar_at top long k =
    ap (λ p. lowest p (low_ends rest)) (low_down top long a a (omega arith) here)
    ∙ ap (lowest (collar_at top long a)) (low_down top long (a + 1) k le hung)
    ∙ sym (same_point (collar_at top long k) (lowest (collar_at top long a) (collar_at top long k)) (min_same top.easting) (min_same top.northing) (min_down top.level (a * long) (k * long) (deeper a k long less)))
    in
    let high : highest (high_ends one) (high_ends rest) ≡ collar_at top long a =
    ap (λ p. highest p (high_ends rest)) (high_down top long a a (omega arith) here)
    ∙ ap (highest (collar_at top long a)) (high_down top long (a + 1) k le hung)
    ∙ sym (same_point (collar_at top long a) (highest (collar_at top long a) (collar_at top long (a + 1))) (max_same top.easting) (max_same top.northing) (max_down top.level (a * long) ((a + 1) * long) (deeper a (a + 1) long (omega arith))))
    in
    ap (λ o. around_both o (bounds_at (collar_at top long k) (collar_at top long (a + 1)))) (down_is top long a a (omega arith) here)
    ∙ ap (around_both (Some one)) (down_is top long (a + 1) k le hung)
    ∙ ap (λ p. bounds_at p (highest (high_ends one) (high_ends rest))) low
    ∙ ap (bounds_at (collar_at top long k)) high

abbrev pub collar_box : Point → ℕ → ℕ → Option Bounds
collar_box top long j = bounds_at (collar_at top long j) (collar_at top long j)

run_down : (top : Point) (long k n a : ℕ) → a + n ≡ k → Hung top long k → smallest (map (collar_box top long) (range_with_len a (suc n))) ≡ bounds_at (collar_at top long k) (collar_at top long a)
run_down top long k zero a e hung =
    let same : a ≡ k = omega arith in
    around_none (collar_box top long a) ∙ ap (λ x. bounds_at (collar_at top long x) (collar_at top long a)) same
run_down top long k (suc n) a e hung =
    ap (around_both (collar_box top long a)) (run_down top long k n (a + 1) (omega arith) hung)
    ∙ around_next top long a k (omega arith) hung

drop_counting : (k a n : ℕ) → k ≤ n → drop k (range_with_len a n) ≡ range_with_len (a + k) (n - k)
drop_counting zero a n h =
    let p : a ≡ a + 0 = omega arith in
    let q : n ≡ n - 0 = omega arith in
    ap (λ x. range_with_len x n) p ∙ ap (range_with_len (a + 0)) q
drop_counting (suc k) a zero h = absurd (omega arith)
drop_counting (suc k) a (suc n) h =
    let p : a + 1 + k ≡ a + suc k = omega arith in
    let q : n - k ≡ suc n - suc k = omega arith in
    drop_counting k (a + 1) n (omega arith) ∙ ap (λ x. range_with_len x (n - k)) p ∙ ap (range_with_len (a + suc k)) q

-- the box around a run of collars reaches from the lowest to the highest
pub run_is : (t : Tally) (start end : ℕ) → start < end → end ≤ t.joints.count → bounds_at (collar_at t.top t.joints.length (end - 1)) (collar_at t.top t.joints.length start) ≡ smallest (take (end - start) (drop start (collar_boxes t.top t.joints.count t.joints.length)))
run_is t start end h k =
    let f = collar_box t.top t.joints.length in
    let left = t.joints.count - start in
    let run : drop start (map f (range_with_len 0 t.joints.count)) ≡ map f (range_with_len start left) =
    drop-map f start (range_with_len 0 t.joints.count) ∙ ap (map f) (drop_counting start 0 t.joints.count (omega arith) ∙ ap (λ x. range_with_len x left) (zero-add start))
    in
    let size : suc (end - start - 1) ≡ end - start = omega arith in
    sym (ap (λ ys. smallest (take (end - start) ys)) run
    ∙ ap smallest (take-map-range_with_len f start left (end - start) (omega arith))
    ∙ ap (λ m. smallest (map f (range_with_len start m))) (sym size)
    ∙ run_down t.top t.joints.length (end - 1) (end - start - 1) start (omega arith) (hung_at t (end - 1) (omega arith)))
