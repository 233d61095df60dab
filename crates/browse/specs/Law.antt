-- The law of browsing, over a book, the distances of its boxes, turns and answers.
use Rattle.std.specs.Prelude.{◌≡◌, ℕ, ◌-◌, ◌^◌, ◌<◌, ◌≤◌, Bool, cond, List, [], ◌∷◌, ◌++◌, map, Ok, Err, ◌==◌, nat_lt}
use Rattle.std.specs.List.{flat_map, AllByRecursion}
use Rattle.geometry.specs.declared.bounds.Bounds.{Bounds}
use Rattle.geometry.specs.Within.{Within}
use Rattle.book.specs.Model.{Model, Node, BookShape}
use Rattle.book_check.specs.Accepted.{Accepted}
use Rattle.search.specs.declared.turn.Hand.{Hand}
use Rattle.search.specs.declared.turn.Call.{Call}
use Rattle.search.specs.declared.turn.Turn.{Turn}
use Rattle.search.specs.Waiting.{sorted}
use Rattle.search.specs.Answer.{Answer, none, row_in, rows_in}
use Rattle.search.specs.Search.{Standing}
use Rattle.search.specs.Law.{Space, Obeys, first_within}
use Rattle.browse.specs.declared.answer.Row.{Row}
use Rattle.browse.specs.declared.waiting.Class.TheVariants.{Node as ANode, Pick}
use Rattle.browse.specs.Thing.{Thing, or_else}
use Rattle.browse.specs.Tree.{Far, things}
use Rattle.browse.specs.Browse.{Reply, row, opening, next_of, replies_from, stands_after}

-- the entries of a leaf name picks, those of any other node name nodes
abbrev pub picks_in : Far → Node → List Thing
picks_in far n = cond (n.level == 0) (things far Pick n.places) []

abbrev pub nodes_in : Far → Node → List Thing
nodes_in far n = cond (n.level == 0) [] (things far ANode n.places)

-- a row for every entry that names a pick
abbrev pub rows : Model → Far → List Row
rows m far = map row (flat_map (picks_in far) m.nodes)

-- by distance, then pick number
abbrev pub row_before : Row → Row → Bool
row_before x y = or_else x.distance y.distance (nat_lt x.pick y.pick)

-- the full ranking
abbrev pub ranking : Model → Far → List Row
ranking m far = sorted row_before (rows m far)

-- how far each node is: the root at 0, any other at the distance of the box of the entry that names it
abbrev pub node_distances : Model → Far → List ℕ
node_distances m far = 0 ∷ map (λ x. x.distance) (flat_map (nodes_in far) m.nodes)

abbrev pub unlimited : ℕ
unlimited = 2 ^ 64 - 1

-- what there is to find
abbrev pub field : Model → Far → Space Row
field m far = record { distance = λ r. r.distance; ranking = ranking m far; nodes = node_distances m far; unlimited = unlimited }

-- not broken
abbrev pub Answered : Reply → Type 0
Answered (Ok a) = Unit {0}
Answered (Err fault) = ⊥

-- the answer; what stands here for a broken one does not matter, since the law says that there is none
abbrev pub answer_in : Reply → Answer Row
answer_in (Ok a) = a
answer_in (Err fault) = none 0

-- what a browse just opened answers
abbrev pub answers : Model → Far → List Turn → List (Answer Row)
answers m far turns = map answer_in (replies_from m far (opening m) turns)

-- The law, of turns from a browse just opened and their answers: no turn is answered broken, not these nor any others,
-- and the answers obey the law of search. That says, of every list of turns: the rows told begin the full ranking; each
-- is within its own limit; where none is answered every pick within the limit was told before; further turns without
-- limit tell exactly the rest, and then nothing; and each count opened is that of the nodes no farther than the greatest
-- distance told or limit answered none so far.
pub record Browsed (m : Model) (far : Far) (turns : List Turn) (replies : List Reply) : Type 0 where
  pub unbroken : AllByRecursion Answered replies
  pub ever : (any : List Turn) → AllByRecursion Answered (replies_from m far (opening m) any)
  pub obeys : Obeys (field m far) (answers m far) turns (map answer_in replies)

-- one call by one hand
abbrev pub taken : Hand → Call → Turn
taken hand call = record { hand = hand; call = call }

-- Of a browse that stands at s: whatever turns of a browse just opened led there, these turns with these replies keep the
-- law.
abbrev pub Lawful : Model → Far → Standing Thing → List Turn → List Reply → Type 0
Lawful m far s turns replies =
    Accepted m → (earlier : List Turn) → stands_after m far (opening m) earlier ≡ s →
    Browsed m far (earlier ++ turns) (replies_from m far (opening m) earlier ++ replies)

-- `next` is answered: by the nearest pick not yet told, lower number first, if it is within the limit, and else by none.
abbrev pub TellsNearest : Model → Far → Standing Thing → ℕ → Reply → Type 0
TellsNearest m far s limit reply =
    Accepted m → (earlier : List Turn) → stands_after m far (opening m) earlier ≡ s →
    (untold : List Row) → rows_in (answers m far earlier) ++ untold ≡ ranking m far →
    Answered reply × (row_in (answer_in reply) ≡ first_within (λ r. r.distance) limit untold)

-- what browsing uses of a measure
abbrev pub Monotone : Far → Type 0
Monotone far = (outer inner : Bounds) → Within inner outer → far outer ≤ far inner

abbrev pub FitsWord : Far → Type 0
FitsWord far = (b : Bounds) → far b < 2 ^ 64

-- the law stands, for every book and measure
abbrev pub BrowsingIsLawful : Type 0
BrowsingIsLawful =
    (m : Model) (far : Far) → BookShape m → Monotone far → FitsWord far →
    (s : Standing Thing) (turns : List Turn) → Lawful m far s turns (replies_from m far s turns)

abbrev pub NextTellsTheNearest : Type 0
NextTellsTheNearest =
    (m : Model) (far : Far) → BookShape m → Monotone far → FitsWord far →
    (s : Standing Thing) (limit : ℕ) → TellsNearest m far s limit (next_of m far limit s).0
