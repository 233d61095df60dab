use Rattle.std.proofs.Common.{◌≡◌, ℕ, ◌+◌, ◌-◌, ◌≤◌, drop, set, length, length-set, refl, arith}
use Rattle.std.proofs.lemmas.Int.{ints}
use Rattle.level.specs.Write.{hundredths_text}
use Rattle.level.proofs.Writing.{magnitude, hundredths_fit, four_at_least, three_put, digit_put, first_put, place_left, whole, whole_below}
use Rattle.level.proofs.text.put_text.Goals as goal

pub overflow_sub-at : goal.overflow_sub-at
overflow_sub-at c =
    let n = magnitude c.args.level c.unsigned_abs-hundredths.result c.ranges.level c.unsigned_abs-hundredths.ensures.value in
    omega (arith, hundredths_fit c.args.level c.unsigned_abs-hundredths.result n, four_at_least c.unsigned_abs-hundredths.result (omega arith))

pub loop-feet-init : goal.loop-feet-init
loop-feet-init c =
    let n = magnitude c.args.level c.unsigned_abs-hundredths.result c.ranges.level c.unsigned_abs-hundredths.ensures.value in
    let l : 4 ≤ length c.args.out.now = omega (arith, hundredths_fit c.args.level c.unsigned_abs-hundredths.result n, four_at_least c.unsigned_abs-hundredths.result (omega arith)) in
    let i : length c.args.out.now - 4 + 1 ≡ length c.args.out.now - 3 = omega arith in
    let t = three_put c.unsigned_abs-hundredths.result c.last_digit.result c.last_digit-2.result (length c.args.out.now) c.args.out.now refl (omega arith) c.last_digit.ensures c.last_digit-2.ensures in
    record { behind = cc; within = simp length-set (omega arith) }

pub overflow_sub-at-in-loop-feet : goal.overflow_sub-at-in-loop-feet
overflow_sub-at-in-loop-feet c =
    let n = magnitude c.args.level c.unsigned_abs-hundredths.result c.ranges.level c.unsigned_abs-hundredths.ensures.value in
    place_left c.unsigned_abs-hundredths.result c.loop-feet.feet c.loop-feet.at c.loop-feet.out c.loop-feet-test.true (omega arith) (omega (arith, length-set {A = ℕ}, hundredths_fit c.args.level c.unsigned_abs-hundredths.result n)) c.loop-feet.invariant.within c.loop-feet.invariant.behind

pub loop-feet-preserved : goal.loop-feet-preserved
loop-feet-preserved c =
    let p = overflow_sub-at-in-loop-feet c in
    let e = digit_put c.unsigned_abs-hundredths.result c.loop-feet.feet c.loop-feet.at c.loop-feet.out c.loop-feet-test.true (omega arith) c.loop-feet.invariant.within c.loop-feet.invariant.behind in
    let k : c.loop-feet.at - 1 + 1 ≡ c.loop-feet.at = omega arith in
    record { behind = cc; within = simp length-set (omega arith) }

pub returns-then-level-lt0 : goal.returns-then-level-lt0
returns-then-level-lt0 c =
    let n = magnitude c.args.level c.unsigned_abs-hundredths.result c.ranges.level c.unsigned_abs-hundredths.ensures.value in
    let e = first_put c.unsigned_abs-hundredths.result c.loop-feet.feet c.loop-feet.at c.loop-feet.out (omega arith) c.loop-feet.invariant.within c.loop-feet.invariant.behind in
    let d : drop c.loop-feet.at (set c.loop-feet.out c.loop-feet.at c.last_digit-3.result) ≡ hundredths_text c.unsigned_abs-hundredths.result = cc in
    whole_below c.args.level c.unsigned_abs-hundredths.result c.loop-feet.at _ (omega (arith, ints)) n (omega (arith, length-set {A = ℕ})) (omega (arith, length-set {A = ℕ})) d

pub returns-else-level-lt0 : goal.returns-else-level-lt0
returns-else-level-lt0 c =
    let n = magnitude c.args.level c.unsigned_abs-hundredths.result c.ranges.level c.unsigned_abs-hundredths.ensures.value in
    let e = first_put c.unsigned_abs-hundredths.result c.loop-feet.feet c.loop-feet.at c.loop-feet.out (omega arith) c.loop-feet.invariant.within c.loop-feet.invariant.behind in
    let d : drop c.loop-feet.at (set c.loop-feet.out c.loop-feet.at c.last_digit-3.result) ≡ hundredths_text c.unsigned_abs-hundredths.result = cc in
    whole c.args.level c.unsigned_abs-hundredths.result c.loop-feet.at _ (omega (arith, ints)) n (omega (arith, length-set {A = ℕ})) (omega (arith, length-set {A = ℕ})) d
