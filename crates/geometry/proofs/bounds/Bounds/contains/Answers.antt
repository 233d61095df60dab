use Rattle.std.proofs.Common.{rules}
use Rattle.std.proofs.lemmas.Bool.Decides.{Decides-at}
use Rattle.geometry.specs.Contains.{contains}
use Rattle.geometry.proofs.Containing.{contains_within}
use Rattle.geometry.proofs.bounds.Bounds.contains.Goals as goal

pub returns-then-covers-2-clause-within : goal.returns-then-covers-2-clause-within
unfolding contains
returns-then-covers-2-clause-within c = Decides-at _ _ (search rules) (contains_within c.args.self.now c.args.inner.now)
