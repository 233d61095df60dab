use Rattle.std.proofs.Common.{rules}
use Rattle.makes.specs.Covers.{level_by}
use Rattle.makes.proofs.sixteens.Sixteens.level.Goals as goal

pub returns : goal.returns
returns c = λ bs e. level_by c.args.self.now.count c.args.node bs e c.args.self.now.few _ _ c.row_of.ensures (search rules)
