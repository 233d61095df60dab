use Rattle.makes.specs.TalliesLemmas.{kind_tally}
use Rattle.std.proofs.Common.{◌∙◌}
use Rattle.makes.proofs.tally.answers.TallyBook.kind.Goals as goal

pub returns : goal.returns
returns c = c.then_some.ensures ∙ kind_tally c.args.self.now c.args.pick
