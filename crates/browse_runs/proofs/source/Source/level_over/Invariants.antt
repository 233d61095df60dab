use Rattle.std.proofs.Common.{length}
use Rattle.browse_runs.proofs.source.Source.level_over.Given as goal

abbrev pub decreases-loop-above : goal.decreases-loop-above
decreases-loop-above l = length l.rest
