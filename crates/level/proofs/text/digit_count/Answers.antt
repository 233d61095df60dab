use Rattle.std.proofs.Common.{arith}
use Rattle.level.proofs.Writing.{length_one, length_step, length_ten}
use Rattle.level.proofs.text.digit_count.Goals as goal

pub overflow_add-count : goal.overflow_add-count
overflow_add-count c = search (arith, length_ten c.args.number (omega arith))

pub loop-left-preserved : goal.loop-left-preserved
loop-left-preserved c = omega (arith, length_step c.loop-left.left c.loop-left-test.true (omega arith))

pub returns-clause-value : goal.returns-clause-value
returns-clause-value c = omega (arith, length_one c.loop-left.left (omega arith))

pub returns-clause-bound : goal.returns-clause-bound
returns-clause-bound c = omega (arith, length_one c.loop-left.left (omega arith), length_ten c.args.number (omega arith))
