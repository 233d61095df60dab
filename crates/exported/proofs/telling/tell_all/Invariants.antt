use Rattle.std.proofs.Common.{◌≡◌, ◌≤◌, length}
use Rattle.loaded.specs.Loaded.{loaded_model}
use Rattle.exported.proofs.Laying.{Laying}
use Rattle.exported.proofs.telling.tell_all.Given as goal

abbrev pub invariant-loop-query : goal.invariant-loop-query
invariant-loop-query g l =
    Laying (g.M.Measure.distance l.measure) (loaded_model l.initial.held.book) l.each l.queries l.initial.rows l.query-index l.rows l.told
    × (l.held.book ≡ l.initial.held.book) × (l.told ≤ length l.initial.rows)
