use Rattle.std.proofs.Common.{◌≡◌, true, false, rules, tests}
use Rattle.std.proofs.lemmas.Iterator.{first_from_Range}
use Rattle.book_check.specs.Marks.{bit_of}
use Rattle.book_check.specs.declared.target.Target.TheVariants.{Child}
use Rattle.book_check.proofs.Scans.{searched, searched_told}
use Rattle.book_check.proofs.scan.all_named.Goals as goal

pub returns : goal.returns
returns c =
    let a = c.args.named.now in
    let found = first_from_Range _ _ _ _ (λ k. bit_of a (Child k) ≡ false) (λ k. bit_of a (Child k) ≡ true) c.find.ensures.ran
    (λ x q k. search (rules, tests)) (λ x q k. (search rules, search (rules, tests))) in
    searched_told a c.args.root _ _ _ (searched a c.args.root _ found) c.map_or.ensures (λ n p. search rules)
