use Rattle.std.proofs.Common.{arith}
use Rattle.console.proofs.Digits.{small}
use Rattle.console.proofs.limit.typed_limit.Goals as goal

pub overflow_mul-limit : goal.overflow_mul-limit
overflow_mul-limit c = omega (arith, small c.loop-byte.byte-index c.loop-byte.limit (omega arith) c.loop-byte.invariant.1)

pub overflow_add-limit : goal.overflow_add-limit
overflow_add-limit c = omega (arith, small c.loop-byte.byte-index c.loop-byte.limit (omega arith) c.loop-byte.invariant.1)
