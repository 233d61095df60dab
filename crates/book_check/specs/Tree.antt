-- What browsing uses of an accepted book. A child need only be lower than its parent.
use Rattle.std.specs.Prelude.{◌≡◌, ℕ, ◌<◌, ◌≤◌, cond, List, [], ◌∷◌, count_by, ◌==◌, nat_eq, Some, None, Option}
use Rattle.std.specs.List.{flat_map}
use Rattle.geometry.specs.Within.{Within}
use Rattle.book.specs.Model.{Model, Node, node_count, pick_limit, level_of, place_count}
use Rattle.book.specs.declared.place.Entry.{Entry}
use Rattle.book_check.specs.Targets.{root_of}
use Rattle.book.specs.Totals.{total_places}
use Rattle.book_check.specs.Accepted.{Stands}

-- the targets of the entries, spoilt places passed over
abbrev pub targets_in : List (Option Entry) → List ℕ
targets_in [] = []
targets_in (None ∷ ps) = targets_in ps
targets_in (Some e ∷ ps) = e.target ∷ targets_in ps

-- the picks that a node names, and the children
abbrev pub picks_in : Node → List ℕ
picks_in nd = cond (nd.level == 0) (targets_in nd.places) []

abbrev pub children_in : Node → List ℕ
children_in nd = cond (nd.level == 0) [] (targets_in nd.places)

-- how often k stands in the list
abbrev pub times : ℕ → List ℕ → ℕ
times k xs = count_by (λ x. nat_eq x k) xs

pub record Tree (m : Model) : Type 0 where
  pub few : total_places m ≤ 2048
  pub filled : (n i : ℕ) → i < place_count m n → (e : Entry) × Stands m n i e
  pub picks_in_book : (n i : ℕ) (e : Entry) → Stands m n i e → level_of m n ≡ 0 → e.target < pick_limit m
  pub children_in_book : (n i : ℕ) (e : Entry) → Stands m n i e → 0 < level_of m n → e.target < root_of m
  pub lower : (n i : ℕ) (e : Entry) → Stands m n i e → 0 < level_of m n → level_of m e.target < level_of m n
  pub inside : (n i : ℕ) (e : Entry) → Stands m n i e → 0 < level_of m n →
      (j : ℕ) (f : Entry) → Stands m e.target j f → Within f.bounds e.bounds
  -- each node but the root is named by one place, the root by none
  pub named : (k : ℕ) → k < node_count m → times k (flat_map children_in m.nodes) ≡ cond (k == root_of m) 0 1
  -- no pick is named twice
  pub once : (p : ℕ) → times p (flat_map picks_in m.nodes) ≤ 1
