-- How many places there are.
use Rattle.std.specs.Prelude.{ℕ, ◌+◌, List, [], ◌∷◌, length}
use Rattle.book.specs.Model.{Node, Model}

abbrev pub places_in : List Node → ℕ
places_in [] = 0
places_in (n ∷ ns) = length n.places + places_in ns

abbrev pub total_places : Model → ℕ
total_places m = places_in m.nodes
