use Rattle.book.specs.Model.{node_count}
use Rattle.std.proofs.Common.{rules, sym, ◌∙◌}
use Rattle.makes.specs.Seams.{joined_by, seam_count}
use Rattle.makes.proofs.join.JoinBook.node_count.Goals as goal

pub returns : goal.returns
returns g c =
    let l = g.L.Book.model c.args.self.now.left in
    let r = g.R.Book.model c.args.self.now.right in
    joined_by c.args.self.now.seam l r node_count _ _ _ c.map_or.ensures (λ p. p) (λ s q. search rules ∙ sym (seam_count s l r))
