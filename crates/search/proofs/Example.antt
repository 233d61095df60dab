-- A small tree: what the definitions make of it, and that the law speaks of it. Node 0 and final 3 are equally far, and final 1 stands in
-- node 0 at that same distance: it is told before final 3 since the node is opened first.
use Rattle.std.proofs.Common.{◌≡◌, ℕ, Bool, true, false, cond, ◌&&◌, eqb, List, [], ◌∷◌, map, take, Some, None, refl, arith}
use Rattle.std.specs.List.{AllByRecursion as All}
use Rattle.std.proofs.lemmas.Bool.{true≢false}
use Rattle.search.specs.declared.turn.Hand.TheVariants.{Day, Evening}
use Rattle.search.specs.declared.turn.Call.TheVariants.{Next, Report}
use Rattle.search.specs.declared.turn.Turn.{Turn}
use Rattle.search.specs.Waiting.{insert}
use Rattle.search.specs.Tree.{Tree, below, nodes, ranking, Sound}
use Rattle.search.specs.Answer.{Answer, none, told, counts}
use Rattle.search.specs.Search.{answers}
use Rattle.search.specs.Law.{exchanges, reached, opened_by, first_within}
use Rattle.search.specs.Lawful.{Lawful, NearestIsTold}
use Rattle.search.specs.Item.{Class, node, final, Item, is_node, before_item, item_tree}
use Rattle.search.proofs.Item.{search_is_lawful, next_tells_the_nearest}

abbrev at : ℕ → Class → ℕ → Item
at d c n = record { distance = d; class = c; number = n }

-- node 2 holds nodes 0 and 1, node 1 finals 3 and 4, node 0 final 1
abbrev kids : Item → List Item
kids x =
    cond (is_node x.class && eqb x.number 2) (at 5 node 0 ∷ at 3 node 1 ∷ [])
    (cond (is_node x.class && eqb x.number 1) (at 5 final 3 ∷ at 4 final 4 ∷ []) (cond (is_node x.class && eqb x.number 0) (at 5 final 1 ∷ []) []))

abbrev height : Item → ℕ
height x = cond (is_node x.class) (cond (eqb x.number 2) 2 1) 0

abbrev small : Tree Item
small = item_tree kids height (at 0 node 2)

abbrev day : ℕ → Turn
day limit = record { hand = Day; call = Next limit }

abbrev evening : ℕ → Turn
evening limit = record { hand = Evening; call = Next limit }

abbrev report : Turn
report = record { hand = Evening; call = Report }

walked : below small (at 0 node 2) ≡ at 0 node 2 ∷ at 5 node 0 ∷ at 5 final 1 ∷ at 3 node 1 ∷ at 5 final 3 ∷ at 4 final 4 ∷ []
walked = refl

ranked : ranking small ≡ at 4 final 4 ∷ at 5 final 1 ∷ at 5 final 3 ∷ []
ranked = refl

-- equals keep the order in which they came
behind : insert {X = Item × Bool} (λ x y. before_item x.0 y.0) (at 5 final 1, true) ((at 5 node 0, true) ∷ (at 5 final 1, false) ∷ (at 5 final 3, true) ∷ [])
    ≡ (at 5 node 0, true) ∷ (at 5 final 1, false) ∷ (at 5 final 1, true) ∷ (at 5 final 3, true) ∷ []
behind = refl

abbrev turns : List Turn
turns = report ∷ day 3 ∷ evening 2 ∷ evening 4 ∷ report ∷ day 9 ∷ day 4 ∷ evening 5 ∷ day 100 ∷ report ∷ []

abbrev replies : List (Answer Item)
replies = counts 0 0 ∷ none 2 ∷ none 2 ∷ told (at 4 final 4) 2 ∷ counts 1 2 ∷ told (at 5 final 1) 3 ∷ none 3 ∷ told (at 5 final 3) 3 ∷ none 3 ∷ counts 3 3 ∷ []

answered : answers small turns ≡ replies
answered = refl

-- before any `next` nothing is reached; then the greatest limit or distance, not the last
came : map (λ n. reached (λ x. x.distance) (exchanges (take n turns) (take n replies))) (1 ∷ 2 ∷ 3 ∷ 4 ∷ 6 ∷ 7 ∷ []) ≡ None ∷ Some 3 ∷ Some 3 ∷ Some 4 ∷ Some 5 ∷ Some 5 ∷ []
came = refl

within : map (opened_by (map (λ x. x.distance) (nodes small))) (None ∷ Some 0 ∷ Some 3 ∷ Some 4 ∷ Some 5 ∷ []) ≡ 0 ∷ 1 ∷ 2 ∷ 2 ∷ 3 ∷ []
within = refl

first : map (λ limit. first_within (λ x. x.distance) limit (ranking small)) (3 ∷ 4 ∷ []) ≡ None ∷ Some (at 4 final 4) ∷ []
first = refl

told_sound : (d n : ℕ) → Sound small (at d final n)
told_sound d n = record { outward = tt; lower = tt; ends = λ _. refl }

sound : All (Sound small) (below small (at 0 node 2))
sound = (
  record { outward = (omega arith, (omega arith, tt)); lower = (omega arith, (omega arith, tt)); ends = λ e. absurd (true≢false e) },
  (
    record { outward = (omega arith, tt); lower = (omega arith, tt); ends = λ e. absurd (true≢false e) },
    (
      told_sound 5 1,
      (
        record { outward = (omega arith, (omega arith, tt)); lower = (omega arith, (omega arith, tt)); ends = λ e. absurd (true≢false e) },
        (told_sound 5 3, (told_sound 4 4, tt)),
      ),
    ),
  ),
)

lawful : Lawful small 5
lawful = search_is_lawful kids height (at 0 node 2) sound 5 (omega arith, (omega arith, (omega arith, tt)))

nearest : NearestIsTold small
nearest = next_tells_the_nearest kids height (at 0 node 2) sound
