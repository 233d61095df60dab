use Rattle.std.proofs.Common.{◌≡◌}
use Rattle.loaded.specs.Loaded.{loaded_model}
use Rattle.browse.specs.Desk.{standing}
use Rattle.exported.proofs.Fronts.{Telling}
use Rattle.exported.proofs.telling.tell.Given as goal

abbrev pub invariant-loop-told : goal.invariant-loop-told
invariant-loop-told g l =
    let b = l.initial.browse in
    Telling (loaded_model b.view.book) (g.M.Measure.distance b.view.measure b.view.query) (standing l.browse.desk) l.initial.rows l.rows l.told
    × (l.browse.view ≡ b.view)
