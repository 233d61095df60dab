use Rattle.std.proofs.Common.{◌≡◌, ◌+◌, ◌≤◌, length, vec_items, vec_len, vec_capacity}
use Rattle.browse.specs.Desk.{standing}
use Rattle.browse.proofs.Saying.{Saying}
use Rattle.browse.proofs.browse.Browse.take_turns.Given as goal

abbrev pub invariant-loop-turn : goal.invariant-loop-turn
invariant-loop-turn g l =
    let b = l.initial.self in
    let m = g.B.Book.model b.view.book in
    let far = g.M.Measure.distance b.view.measure b.view.query in
    Saying m far (standing b.desk) l.turns (standing l.self.desk) l.turn-index (vec_items l.answers)
    × (l.self.view ≡ b.view)
    × (vec_len l.answers + length l.turns ≤ vec_capacity l.answers + l.turn-index)
