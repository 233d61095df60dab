use Rattle.std.proofs.Common.{refl, arith}
use Rattle.std.proofs.lemmas.Nat.{mul-le}
use Rattle.geometry.proofs.euclidean.square.Goals as goal

pub overflow_mul-result : goal.overflow_mul-result
overflow_mul-result c = omega (arith, mul-le c.args.gap c.args.gap 20000000 20000000 c.requires c.requires)

pub returns : goal.returns
returns c = record { value = refl; bound = mul-le c.args.gap c.args.gap 20000000 20000000 c.requires c.requires }
