use Rattle.std.proofs.Common.{◌≡◌, ◌-◌}
use Rattle.book.specs.Model.{node_count}
use Rattle.browse.specs.Browse.{next_of}
use Rattle.browse.specs.Desk.{standing}
use Rattle.browse.proofs.view.View.follow.Given as goal

abbrev pub invariant-loop-first : goal.invariant-loop-first
invariant-loop-first g l =
    let m = g.B.Book.model l.self.book in
    let far = g.M.Measure.distance l.self.measure l.self.query in
    next_of m far l.limit (standing l.desk) ≡ next_of m far l.limit (standing l.initial.desk)

abbrev pub decreases-loop-first : goal.decreases-loop-first
decreases-loop-first g l = node_count (g.B.Book.model l.self.book) - (standing l.desk).opened
