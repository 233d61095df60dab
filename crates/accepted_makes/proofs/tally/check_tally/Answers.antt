use Rattle.std.proofs.Common.{ap, ◌∙◌}
use Rattle.std.specs.Result.{result_unwrap_or}
use Rattle.accepted_makes.proofs.Sixteens.{sixteens_accepted}
use Rattle.accepted_makes.proofs.Tallies.{tallies_accepted, tally_answer}
use Rattle.accepted_makes.proofs.tally.check_tally.Goals as goal

pub returns : goal.returns
returns c =
    record {
      answer = c.unwrap_or.ensures ∙ ap (λ r. result_unwrap_or r 0) (tally_answer c.args.tally.now c.check.result c.check.ensures.accepts);
      trees = sixteens_accepted;
      tallies = tallies_accepted;
    }
