-- A tree of things at distances, and its full ranking.
use Rattle.std.specs.Prelude.{◌≡◌, ℕ, zero, suc, ◌<◌, ◌≤◌, Bool, false, not, List, [], ◌∷◌, filter}
use Rattle.std.specs.List.{flat_map, AllByRecursion}
use Rattle.search.specs.Waiting.{sorted}

-- Some things are nodes, which are opened: their kids then stand in their place. The others are final, and are told.
pub record Tree (X : Type 0) : Type 0 where
  pub distance : X → ℕ
  pub opens : X → Bool
  pub before : X → X → Bool
  pub kids : X → List X
  pub height : X → ℕ
  pub root : X

-- x and whatever is at most n steps down from it
abbrev pub walk : {X : Type 0} → (X → List X) → ℕ → X → List X
walk kids zero x = x ∷ []
walk kids (suc n) x = x ∷ flat_map (walk kids n) (kids x)

-- x and all below it: a kid is lower than its parent, so there is nothing more steps down than x is high
abbrev pub below : {X : Type 0} → Tree X → X → List X
below t x = walk t.kids (t.height x) x

abbrev pub nodes : {X : Type 0} → Tree X → List X
nodes t = filter t.opens (below t t.root)

abbrev pub finals : {X : Type 0} → Tree X → List X
finals t = filter (λ x. not (t.opens x)) (below t t.root)

-- every final in its order, which is nearest first
abbrev pub ranking : {X : Type 0} → Tree X → List X
ranking t = sorted t.before (finals t)

-- What a thing's kids must be: no nearer than it, lower than it, and none at all if it is final.
pub record Sound {X : Type 0} (t : Tree X) (x : X) : Type 0 where
  pub outward : AllByRecursion (λ y. t.distance x ≤ t.distance y) (t.kids x)
  pub lower : AllByRecursion (λ y. t.height y < t.height x) (t.kids x)
  pub ends : t.opens x ≡ false → t.kids x ≡ []
