use Rattle.browse.proofs.Lawful.{lawful, nearest}
use Rattle.browse.proofs.law.browsing_is_lawful.Goals as goal

pub returns : goal.returns
returns c = record { lawful = lawful; nearest = nearest }
