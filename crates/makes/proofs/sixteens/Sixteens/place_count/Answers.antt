use Rattle.std.proofs.Common.{rules}
use Rattle.makes.specs.Covers.{count_by}
use Rattle.makes.proofs.sixteens.Sixteens.place_count.Goals as goal

pub returns : goal.returns
returns c =
    let s = c.args.self.now in
    λ bs e. count_by s.count c.args.node bs e s.few s.some _ _ c.row_of.ensures (search rules)
