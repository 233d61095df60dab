-- A book as a tree of things, for a query whose distance from each box is `far`.
use Rattle.std.specs.Prelude.{ℕ, ◌+◌, ◌-◌, cond, List, [], ◌∷◌, pos, ◌==◌, Some, None, Option}
use Rattle.geometry.specs.declared.bounds.Bounds.{Bounds}
use Rattle.book.specs.Model.{Model, node_count, level_of, places_of}
use Rattle.book.specs.declared.place.Entry.{Entry}
use Rattle.search.specs.Tree.{Tree}
use Rattle.browse.specs.declared.waiting.Class.{Class}
use Rattle.browse.specs.declared.waiting.Class.TheVariants.{Node, Pick}
use Rattle.browse.specs.Thing.{Thing, opens, before}

-- how far each box is from the query
abbrev pub Far : Type 0
Far = Bounds → ℕ

-- what the entries of a node of this level name
abbrev pub class_at : ℕ → Class
class_at level = cond (level == 0) Pick Node

abbrev pub thing : Far → Class → Entry → Thing
thing far c e = record { distance = far e.bounds; class = c; number = e.target; top = e.bounds.level.high }

-- the entries of these places, lower place first
abbrev pub things : Far → Class → List (Option Entry) → List Thing
things far c [] = []
things far c (None ∷ ps) = things far c ps
things far c (Some e ∷ ps) = thing far c e ∷ things far c ps

abbrev pub kids_as : Model → Far → Class → ℕ → List Thing
kids_as m far Node n = things far (class_at (level_of m n)) (places_of m n)
kids_as m far Pick n = []

abbrev pub height_as : Model → Class → ℕ → ℕ
height_as m Node n = level_of m n + 1
height_as m Pick n = 0

-- the root waits at distance 0
abbrev pub root_thing : Model → Thing
root_thing m = record { distance = 0; class = Node; number = node_count m - 1; top = pos 0 }

abbrev pub tree_of : Model → Far → Tree Thing
tree_of m far = record {
  distance = λ x. x.distance;
  opens = λ x. opens x.class;
  before = before;
  kids = λ x. kids_as m far x.class x.number;
  height = λ x. height_as m x.class x.number;
  root = root_thing m;
}
