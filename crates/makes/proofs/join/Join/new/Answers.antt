use Rattle.makes.specs.Join.{root_boxes}
use Rattle.makes.specs.Smallests.{smallest_is}
use Rattle.makes.proofs.join.Join.new.Goals as goal

pub returns-clause-smallest : goal.returns-clause-smallest
returns-clause-smallest g c = λ m. smallest_is (root_boxes m)
