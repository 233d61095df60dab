use Rattle.std.proofs.Common.{◌∙◌}
use Rattle.makes.specs.TalliesLemmas.{nodes_tally}
use Rattle.makes.proofs.tally.answers.TallyBook.node_count.Goals as goal

pub returns : goal.returns
returns c = c.node_count.ensures ∙ nodes_tally c.args.self.now c.tree.result.count c.tree.ensures
