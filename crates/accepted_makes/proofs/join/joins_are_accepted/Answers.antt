use Rattle.accepted_makes.proofs.Joins.{joins_accepted}
use Rattle.accepted_makes.proofs.join.joins_are_accepted.Goals as goal

pub returns : goal.returns
returns c = joins_accepted
