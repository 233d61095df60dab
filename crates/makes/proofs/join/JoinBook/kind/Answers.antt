use Rattle.std.proofs.Common.{◌∙◌, ap, arith}
use Rattle.book.specs.Model.{kind_of}
use Rattle.makes.specs.Seam.{known}
use Rattle.makes.specs.Seams.{kind_none, kind_left, kind_right, kind_past}
use Rattle.makes.proofs.join.JoinBook.kind.Goals.{in-None, in-Some}
use Rattle.makes.proofs.join.JoinBook.kind.Goals as goal

pub returns-in_err-seam : goal.returns-in_err-seam
returns-in_err-seam g c =
    c.from_residual.ensures ∙ kind_none c.args.self.now.seam (g.L.Book.model c.args.self.now.left) (g.R.Book.model c.args.self.now.right) c.args.pick c.in_err-seam.was

pub returns-in-Some-2 : goal.returns-in-Some-2
returns-in-Some-2 g c =
    kind_past c.args.self.now.seam (g.L.Book.model c.args.self.now.left) (g.R.Book.model c.args.self.now.right) c.in_ok-seam.seam
    c.args.pick c.in_ok-seam.was c.in-Some.ensures.0 (omega (arith, c.in-Some.ensures.1, c.if-rest-seam.false))

pub returns : goal.returns
returns g c =
    elim c.match-checked_sub.branch [
      | in-None w ↦
          kind_left c.args.self.now.seam (g.L.Book.model c.args.self.now.left) (g.R.Book.model c.args.self.now.right) c.in_ok-seam.seam
          c.args.pick c.unwrap_or.result w.kind-kind.result c.in_ok-seam.was (omega (arith, w.in-None.ensures)) (c.unwrap_or.ensures ∙ ap known w.kind-is) w.kind-kind.ensures
      | in-Some w ↦
          kind_right c.args.self.now.seam (g.L.Book.model c.args.self.now.left) (g.R.Book.model c.args.self.now.right) c.in_ok-seam.seam
          c.args.pick c.unwrap_or.result w.kind-kind-in-Some.result c.in_ok-seam.was w.in-Some.ensures.0
          (omega (arith, w.in-Some.ensures.1, w.if-rest-seam.true)) (c.unwrap_or.ensures ∙ ap known w.kind-is)
          (w.kind-kind-in-Some.ensures ∙ ap (kind_of (g.R.Book.model c.args.self.now.right)) w.in-Some.ensures.1)
    ]
