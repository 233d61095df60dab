use Rattle.std.proofs.Common.{◌≡◌, Err, None, sym, ap, ◌∙◌, rules}
use Rattle.std.proofs.lemmas.Option.{MatchOption-at_some, MatchOption-at_none}
use Rattle.refusal.specs.Told.{plain, answered, typing_told}
use Rattle.makes.specs.Tallies.{tally_of}
use Rattle.makes.specs.Collars.{made_tally, not_sized, not_hung}
use Rattle.makes.proofs.tally.Tally.new.Goals as goal

pub returns-in_err-joints : goal.returns-in_err-joints
returns-in_err-joints c =
    let none : c.new.result ≡ None = c.in_err-joints.ensures.ok_part in
    let told : answered typing_told c.from_residual.result ≡ Err (plain 24) = search rules in
    told ∙ not_sized c.args.top c.args.joints c.args.length (MatchOption-at_none _ _ none c.new.ensures)

pub returns-then-hangs : goal.returns-then-hangs
returns-then-hangs c =
    let made = MatchOption-at_some _ _ c.in_ok-joints.joints c.in_ok-joints.ensures.ok_part c.new.ensures in
    made_tally _ ∙ ap (λ n. tally_of c.args.top n c.in_ok-joints.joints.length) made.0 ∙ ap (tally_of c.args.top c.args.joints) made.1

pub returns-else-hangs : goal.returns-else-hangs
returns-else-hangs c =
    let j = c.in_ok-joints.joints in
    let made = MatchOption-at_some _ _ j c.in_ok-joints.ensures.ok_part c.new.ensures in
    not_hung c.args.top j.count j.length j.sizes (sym c.if-hangs.ensures)
    ∙ ap (λ n. tally_of c.args.top n j.length) made.0 ∙ ap (tally_of c.args.top c.args.joints) made.1
