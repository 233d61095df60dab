use Rattle.std.proofs.Common.{true, ◌∙◌, rules, tests}
use Rattle.std.proofs.lemmas.Iterator.{YieldsList-from_slice}
use Rattle.std.proofs.lemmas.Iterator.Consumers.{fold_from_yields_List}
use Rattle.loaded.proofs.PickKinds.{and_kind, all_are_kinds, numbered_ok}
use Rattle.loaded.proofs.picks.all_kinds.Goals as goal

pub returns : goal.returns
returns c =
    fold_from_yields_List _ and_kind true c.fold.result c.fold.ensures.ran (YieldsList-from_slice c.args.numbers.now cc) (λ all x b q k. search (rules, tests, numbered_ok))
    ∙ all_are_kinds c.args.numbers.now
