use Rattle.std.proofs.Common.{◌≡◌, map, sym, refl, ap, ◌∙◌, arith, rules, tests}
use Rattle.std.specs.Char.{is_ascii_digit}
use Rattle.std.specs.List.{fold, filter}
use Rattle.std.proofs.lemmas.Fn.{serves_by}
use Rattle.std.proofs.lemmas.List.Sums.{fold_push}
use Rattle.std.proofs.lemmas.List.{map_push}
use Rattle.std.proofs.lemmas.Iterator.{YieldsList-from_slice}
use Rattle.std.proofs.lemmas.Iterator.Consumers.{YieldsList-from_filter, YieldsList-at}
use Rattle.level.proofs.Reading.{more, fold_spells, next_digit, folded, spelt_small}
use Rattle.level.proofs.read.digits_spell.Goals as goal

pub fold-requires-clause-callable : goal.fold-requires-clause-callable
fold-requires-clause-callable c =
    serves_by _ (λ xs q. q.1 ≡ fold more 0 (map (λ x. x.now) xs))
    (λ xs q x v j k.
    let e : v.1 ≡ more q.1 x.now = search (rules, tests) in
    e ∙ ap (λ sum. more sum x.now) j ∙ sym (fold_push more 0 (map (λ x. x.now) xs) x.now) ∙ ap (fold more 0) (sym (map_push (λ x. x.now) xs x)))
    _ _ _ _ refl
    (λ xs t q x u y e j.
    let d = next_digit {v = λ x. x.now} xs t u x q.1 c.args.text.now c.requires j y e (YieldsList-from_filter _ is_ascii_digit (YieldsList-at c.filter.ensures.source (YieldsList-from_slice c.args.text.now cc)) c.filter.ensures.closure (λ x b q k. search (rules, tests))) in
    search (rules, d.0, d.1, d.2))

pub returns-clause-value : goal.returns-clause-value
returns-clause-value c =
    folded c.fold.result (filter is_ascii_digit c.args.text.now) c.fold.ensures.ran
    (YieldsList-from_filter _ is_ascii_digit (YieldsList-at c.filter.ensures.source (YieldsList-from_slice c.args.text.now cc)) c.filter.ensures.closure (λ x b q k. search (rules, tests)))
    (λ sum x b q k. search (rules, tests))
    ∙ fold_spells 0 c.args.text.now

pub returns-clause-bound : goal.returns-clause-bound
returns-clause-bound c = let e = returns-clause-value c in omega (arith, e, spelt_small c.args.text.now c.requires)
