use Rattle.std.proofs.Common.{arith}
use Rattle.std.proofs.lemmas.Int.{ints, clamps}
use Rattle.geometry.proofs.bounds.Span.gap.Goals as goal

pub returns : goal.returns
returns c = record { value = omega (arith, ints, clamps); bound = omega (arith, ints, clamps) }
