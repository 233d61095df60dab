use Rattle.std.proofs.Common.{refl}
use Rattle.makes.specs.Offset.{no_move}
use Rattle.makes.specs.Shifts.{shift_none}
use Rattle.makes.proofs.offset.Offset.none.Goals as goal

pub returns-clause-same : goal.returns-clause-same
returns-clause-same c = shift_none no_move refl
