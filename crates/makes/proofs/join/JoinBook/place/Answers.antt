use Rattle.std.proofs.Common.{get_or, sym, ap, ◌∙◌, None}
use Rattle.book.specs.Model.{Node}
use Rattle.makes.specs.Join.{nothing}
use Rattle.makes.specs.Seams.{node_at, node_none, renumbered_at}
use Rattle.makes.proofs.join.JoinBook.place.Goals as goal

pub returns-in_err-seam : goal.returns-in_err-seam
returns-in_err-seam g c =
    c.from_residual.ensures
    ∙ sym (ap (λ (n : Node). get_or n.places c.args.index None) (node_none c.args.self.now.seam (g.L.Book.model c.args.self.now.left) (g.R.Book.model c.args.self.now.right) c.args.node c.in_err-seam.was))

pub returns-in-Left : goal.returns-in-Left
returns-in-Left g c =
    renumbered_at c.in_ok-seam.seam.left nothing (g.L.Book.model c.args.self.now.left) c.in-Left.k c.args.index _ _ _ c.renumbered.ensures c.level.ensures c.place.ensures
    ∙ sym (ap (λ (n : Node). get_or n.places c.args.index None) (node_at c.args.self.now.seam (g.L.Book.model c.args.self.now.left) (g.R.Book.model c.args.self.now.right) c.in_ok-seam.seam _ c.args.node c.in_ok-seam.was c.in-Left.ensures))

pub returns-in-Right : goal.returns-in-Right
returns-in-Right g c =
    renumbered_at c.in_ok-seam.seam.right c.in_ok-seam.seam.left (g.R.Book.model c.args.self.now.right) c.in-Right.k c.args.index _ _ _ c.renumbered-in-Right.ensures c.level-in-Right.ensures c.place-in-Right.ensures
    ∙ sym (ap (λ (n : Node). get_or n.places c.args.index None) (node_at c.args.self.now.seam (g.L.Book.model c.args.self.now.left) (g.R.Book.model c.args.self.now.right) c.in_ok-seam.seam _ c.args.node c.in_ok-seam.was c.in-Right.ensures))

pub returns-in-Root : goal.returns-in-Root
returns-in-Root g c =
    c.root_place.ensures
    ∙ sym (ap (λ (n : Node). get_or n.places c.args.index None) (node_at c.args.self.now.seam (g.L.Book.model c.args.self.now.left) (g.R.Book.model c.args.self.now.right) c.in_ok-seam.seam _ c.args.node c.in_ok-seam.was c.in-Root.ensures))

pub returns-in-Outside : goal.returns-in-Outside
returns-in-Outside g c =
    sym (ap (λ (n : Node). get_or n.places c.args.index None) (node_at c.args.self.now.seam (g.L.Book.model c.args.self.now.left) (g.R.Book.model c.args.self.now.right) c.in_ok-seam.seam _ c.args.node c.in_ok-seam.was c.in-Outside.ensures))
