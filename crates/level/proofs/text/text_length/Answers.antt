use Rattle.std.proofs.Common.{◌≤◌, arith, rules}
use Rattle.level.proofs.Writing.{length_most}
use Rattle.level.proofs.text.text_length.Goals as goal

pub returns-clause-bound : goal.returns-clause-bound
returns-clause-bound c =
    let minus : c.from.result ≤ 1 = search (rules, arith) in
    omega (arith, length_most c.unsigned_abs.result (omega arith))
