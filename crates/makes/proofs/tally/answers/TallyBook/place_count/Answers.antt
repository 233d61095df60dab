use Rattle.std.proofs.Common.{sym, ◌∙◌}
use Rattle.makes.specs.TalliesLemmas.{boxes_of, collars_count}
use Rattle.makes.proofs.tally.answers.TallyBook.place_count.Goals as goal

pub returns : goal.returns
returns c = let t = c.args.self.now in c.place_count.ensures (boxes_of t) (collars_count t ∙ sym c.tree.ensures)
