use Rattle.book.specs.Model.{places_of, level_of}
use Rattle.browse.specs.Desk.{kids_held}
use Rattle.browse.proofs.Collecting.{Collecting}
use Rattle.browse.proofs.view.View.sound_kids.Given as goal

abbrev pub invariant-loop-index : goal.invariant-loop-index
invariant-loop-index g l =
    let m = g.B.Book.model l.self.book in
    let far = g.M.Measure.distance l.self.measure l.self.query in
    Collecting m far (level_of m l.node) l.nearest (places_of m l.node) (kids_held l.kids) l.index
