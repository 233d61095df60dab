use Rattle.std.proofs.Common.{◌∙◌, rules, tests}
use Rattle.std.proofs.lemmas.Iterator.{YieldsList-from_slice, YieldsList-from_map}
use Rattle.std.proofs.lemmas.Iterator.Consumers.{sum_by_from_yields_List}
use lib.Count.{ones}
use Rattle.book_check.proofs.Bits.{ones_in}
use Rattle.book_check.proofs.marks.count_marked.Goals as goal

pub returns : goal.returns
returns c =
    let ws = c.args.words.now in
    sum_by_from_yields_List ones ws c.map.result _ c.sum.ensures.ran
    (YieldsList-from_map _ ones (YieldsList-from_slice ws cc) c.map.ensures.closure (λ x r q k. search (rules, tests)))
    ∙ ones_in ws (search rules)
