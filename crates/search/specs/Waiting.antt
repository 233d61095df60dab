-- What waits, as a list in order.
use Rattle.std.specs.Prelude.{Bool, cond, List, [], ◌∷◌}

module _ {X : Type 0} (before : X → X → Bool) where
  -- A newcomer stands in front of the first that it comes before. So equals keep the order in which they came.
  abbrev pub insert : X → List X → List X
  insert x [] = x ∷ []
  insert x (y ∷ ys) = cond (before x y) (x ∷ y ∷ ys) (y ∷ insert x ys)

  -- Newcomers, one after another.
  abbrev pub inserts : List X → List X → List X
  inserts [] ys = ys
  inserts (x ∷ xs) ys = inserts xs (insert x ys)

  abbrev pub sorted : List X → List X
  sorted xs = inserts xs []
