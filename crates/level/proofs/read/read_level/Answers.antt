use Rattle.std.proofs.Common.{rules}
use Rattle.level.proofs.Reading.{kept, obeys}
use Rattle.level.proofs.read.read_level.Goals as goal

pub returns-clause-answer : goal.returns-clause-answer
returns-clause-answer c =
    let e = kept c.args.text.now c.try_from.result c.filter.result (search rules) (search rules) in
    search (rules, e)

pub returns-clause-law : goal.returns-clause-law
returns-clause-law c = obeys _ _ (returns-clause-answer c)
