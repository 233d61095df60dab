use Rattle.std.proofs.Common.{sym, ap, ◌∙◌}
use Rattle.makes.specs.Places.{place_for}
use Rattle.makes.specs.TalliesLemmas.{boxes_of, collars_count}
use Rattle.makes.proofs.tally.answers.TallyBook.place.Goals as goal

pub returns-in_err-target : goal.returns-in_err-target
returns-in_err-target c =
    let t = c.args.self.now in
    c.from_residual.ensures ∙ c.in_err-target.ensures.place (boxes_of t) (collars_count t ∙ sym c.tree.ensures)

pub returns-in_err-bounds : goal.returns-in_err-bounds
returns-in_err-bounds c =
    let t = c.args.self.now in
    c.from_residual-in_err-bounds.ensures
    ∙ ap (place_for c.in_ok-target.field-0.target) (sym c.in_err-bounds.was ∙ c.run.ensures)
    ∙ c.in_ok-target.ensures.place (boxes_of t) (collars_count t ∙ sym c.tree.ensures)

pub returns : goal.returns
returns c =
    let t = c.args.self.now in
    ap (place_for c.in_ok-target.field-0.target) (sym c.in_ok-bounds.was ∙ c.run.ensures)
    ∙ c.in_ok-target.ensures.place (boxes_of t) (collars_count t ∙ sym c.tree.ensures)
