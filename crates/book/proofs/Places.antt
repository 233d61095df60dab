-- Places counted and searched, one more at a time.
use Rattle.std.proofs.Common.{◌≡◌, ℕ, ◌+◌, ◌<◌, List, [], ◌∷◌, ◌++◌, length, get_or, take, sum_by, refl, ap, ◌∙◌, arith}
use Rattle.std.proofs.lemmas.List.{take_more}
use Rattle.std.proofs.lemmas.List.Sums.{sum_by-cons}
use Rattle.book.specs.Model.{Node, no_node}
use Rattle.book.specs.Totals.{places_in}

pub places_in_append : (xs ys : List Node) → places_in (xs ++ ys) ≡ places_in xs + places_in ys
places_in_append [] ys = omega arith
places_in_append (x ∷ xs) ys = omega (arith, places_in_append xs ys)

-- the same as a sum
pub places_summed : (ns : List Node) → places_in ns ≡ sum_by (λ n. length n.places) ns
places_summed [] = refl
places_summed (n ∷ ns) = omega (arith, places_summed ns, sum_by-cons (λ n. length n.places) n ns)

-- one node more
pub places_in_more : (xs : List Node) (i : ℕ) → i < length xs → places_in (take (i + 1) xs) ≡ places_in (take i xs) + length (get_or xs i no_node).places
places_in_more xs i h =
    ap places_in (take_more xs i no_node h) ∙ places_in_append (take i xs) (get_or xs i no_node ∷ []) ∙ omega arith
