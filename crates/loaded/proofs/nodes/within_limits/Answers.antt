use Rattle.std.proofs.Common.{◌∙◌, rules, tests}
use Rattle.std.proofs.lemmas.Iterator.{YieldsList-from_slice}
use Rattle.std.proofs.lemmas.Iterator.Search.{all_from_yields_List}
use Rattle.loaded.proofs.NodeRecords.{is_within, all_within}
use Rattle.loaded.proofs.nodes.within_limits.Goals as goal

pub returns : goal.returns
returns c =
    all_from_yields_List is_within _ _ _ c.all.ensures.ran (YieldsList-from_slice c.args.records.now cc) (λ x b q k. search (rules, tests))
    ∙ all_within c.args.records.now
