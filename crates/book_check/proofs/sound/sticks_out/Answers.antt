use Rattle.std.proofs.Common.{ap, ◌∙◌, refl, arith, rules, tests}
use Rattle.std.specs.List.{list_any, range_with_len}
use Rattle.std.proofs.lemmas.Iterator.{YieldsList-from_range}
use Rattle.std.proofs.lemmas.Iterator.Search.{any_from_yields_List}
use Rattle.book.specs.Model.{place_of}
use Rattle.book_check.specs.Sound.{outside}
use Rattle.book_check.proofs.Sounds.{any_outside}
use Rattle.book_check.proofs.sound.sticks_out.Goals as goal

pub returns : goal.returns
returns g c =
    let m = g.B.Book.model c.args.book.now in
    let b = c.args.bounds.now in
    let k = c.args.node in
    any_from_yields_List (λ j. outside b (place_of m k j)) _ _ _ c.any.ensures.ran
    (YieldsList-from_range 0 c.place_count.result c.place_count.result refl (omega arith))
    (λ x r q t. search (rules, tests))
    ∙ ap (λ n. list_any (λ j. outside b (place_of m k j)) (range_with_len 0 n)) c.place_count.ensures
    ∙ any_outside m b k
