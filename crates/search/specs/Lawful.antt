-- The search of a tree is lawful.
use Rattle.std.specs.Prelude.{◌≡◌, ℕ, List, [], ◌∷◌, ◌++◌, map}
use Rattle.search.specs.declared.turn.Call.TheVariants.{Next}
use Rattle.search.specs.declared.turn.Turn.{Turn}
use Rattle.search.specs.Tree.{Tree, nodes, ranking}
use Rattle.search.specs.Answer.{row_in, rows_in}
use Rattle.search.specs.Search.{answers}
use Rattle.search.specs.Law.{Space, Obeys, first_within}

-- what there is to find in a tree
abbrev pub space_of : {X : Type 0} → Tree X → ℕ → Space X
space_of t unlimited = record { distance = t.distance; ranking = ranking t; nodes = map t.distance (nodes t); unlimited = unlimited }

-- whatever the turns
abbrev pub Lawful : {X : Type 0} → Tree X → ℕ → Type 0
Lawful t unlimited = (turns : List Turn) → Obeys (space_of t unlimited) (answers t) turns (answers t turns)

-- After any turns, `next` tells the first of the rows that are left if it is within the limit, and else none.
abbrev pub NearestIsTold : {X : Type 0} → Tree X → Type 0
NearestIsTold {X} t = (turns : List Turn) (rest : List X) → rows_in (answers t turns) ++ rest ≡ ranking t → (u : Turn) (limit : ℕ) → u.call ≡ Next limit →
    map row_in (answers t (turns ++ u ∷ [])) ≡ map row_in (answers t turns) ++ (first_within t.distance limit rest ∷ [])
