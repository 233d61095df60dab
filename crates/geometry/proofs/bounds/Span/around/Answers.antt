use Rattle.std.proofs.Common.{arith}
use Rattle.std.proofs.lemmas.Int.{ints, clamps}
use Rattle.geometry.proofs.Arounds.{lower, higher, around_smallest}
use Rattle.geometry.proofs.Spans.{made}
use Rattle.geometry.proofs.bounds.Span.around.Goals as goal

pub invariant_of-result : goal.invariant_of-result
invariant_of-result c = record { least = omega (arith, ints, clamps); ordered = omega (arith, ints, clamps); most = omega (arith, ints, clamps) }

pub returns : goal.returns
returns c =
    let s = c.args.self.now in
    let t = c.args.other.now in
    let low = lower s t c.min.result (omega (arith, ints, clamps)) in
    let high = higher s t c.max.result (omega (arith, ints, clamps)) in
    record { value = made _ _ _ low high; smallest = around_smallest s t _ low high }
