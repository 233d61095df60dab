use Rattle.book.specs.Model.{place_count}
use Rattle.std.proofs.Common.{rules}
use Rattle.makes.specs.Seams.{joined_by, count_at_part}
use Rattle.makes.proofs.join.JoinBook.place_count.Goals as goal

pub returns : goal.returns
returns g c =
    let l = g.L.Book.model c.args.self.now.left in
    let r = g.R.Book.model c.args.self.now.right in
    joined_by c.args.self.now.seam l r (λ m. place_count m c.args.node) _ _ _ c.map_or.ensures (λ p. search rules) (λ s q. search (rules, count_at_part))
