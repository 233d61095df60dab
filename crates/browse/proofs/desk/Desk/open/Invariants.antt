use Rattle.browse.specs.Desk.{standing}
use Rattle.browse.proofs.Entering.{Entering}
use Rattle.browse.proofs.desk.Desk.open.Given as goal

abbrev pub invariant-loop-kid : goal.invariant-loop-kid
invariant-loop-kid l = Entering (standing l.initial.self) l.kid-items l.self l.kid-index
