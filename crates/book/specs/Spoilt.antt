-- The first spoilt place, lowest node first, then lowest place.
use Rattle.std.specs.Prelude.{ℕ, ◌+◌, List, [], ◌∷◌, Some, None, Option}
use Rattle.book.specs.Model.{Node, Model}
use Rattle.book.specs.declared.place.Entry.{Entry}

-- the first spoilt one of the places n has from i on, or else `later`
abbrev pub spoilt_place : ℕ → ℕ → List (Option Entry) → Option (ℕ × ℕ) → Option (ℕ × ℕ)
spoilt_place n i [] later = later
spoilt_place n i (Some e ∷ ps) later = spoilt_place n (i + 1) ps later
spoilt_place n i (None ∷ ps) later = Some (n, i)

-- the first spoilt place of the nodes from n on
abbrev pub spoilt_node : ℕ → List Node → Option (ℕ × ℕ)
spoilt_node n [] = None
spoilt_node n (x ∷ xs) = spoilt_place n 0 x.places (spoilt_node (n + 1) xs)

abbrev pub first_spoilt : Model → Option (ℕ × ℕ)
first_spoilt m = spoilt_node 0 m.nodes
