use Rattle.std.proofs.Common.{sym, ap, ◌∙◌}
use Rattle.makes.specs.Places.{place_for}
use Rattle.makes.specs.Shift.{shifted_place}
use Rattle.makes.specs.Shifts.{place_shift}
use Rattle.makes.proofs.shift.ShiftBook.place.Goals as goal

pub returns : goal.returns
returns g c =
    ap (place_for c.in_ok-entry.entry.target) (sym c.in_ok-bounds.was ∙ c.moved.ensures)
    ∙ ap (shifted_place c.args.self.now.offset.by) (sym c.in_ok-entry.was ∙ c.place.ensures)
    ∙ sym (place_shift c.args.self.now.offset.by (g.B.Book.model c.args.self.now.book) c.args.node c.args.index)
