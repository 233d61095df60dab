use Rattle.makes.specs.Trees.{tree_by}
use Rattle.makes.proofs.sixteens.Sixteens.over.Goals as goal

pub returns-then-contains-clause-tree : goal.returns-then-contains-clause-tree
returns-then-contains-clause-tree c = tree_by

pub returns-else-contains-clause-tree : goal.returns-else-contains-clause-tree
returns-else-contains-clause-tree c = tree_by
