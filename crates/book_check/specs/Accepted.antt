-- What it means that a book is accepted.
use Rattle.std.specs.Prelude.{◌≡◌, ℕ, ◌+◌, ◌<◌, ◌≤◌, Some}
use Rattle.geometry.specs.Within.{Within}
use Rattle.book.specs.Model.{Model, pick_limit, level_of, place_count, place_of}
use Rattle.book.specs.declared.place.Entry.{Entry}
use Rattle.book_check.specs.Targets.{target_of, root_of}
use Rattle.book.specs.Totals.{total_places}
use Rattle.book_check.specs.declared.target.Target.{Target}
use Rattle.book_check.specs.declared.target.Target.TheVariants.{Pick, Child}

-- the entry e stands at place i of node n
abbrev pub Stands : Model → ℕ → ℕ → Entry → Type 0
Stands m n i e = place_of m n i ≡ Some e

-- place i of node n names t
abbrev pub Names : Model → ℕ → ℕ → Target → Type 0
Names m n i t = (e : Entry) × Stands m n i e × (target_of m n e ≡ t)

abbrev pub InBook : Model → Target → Type 0
InBook m (Pick p) = p < pick_limit m
InBook m (Child k) = k < root_of m

-- the one place that names node k: its node is one level higher, and its box contains the entries of k
pub record Parent (m : Model) (k : ℕ) : Type 0 where
  pub node : ℕ
  pub place : ℕ
  pub entry : Entry
  pub stands : Stands m node place entry
  pub names : target_of m node entry ≡ Child k
  pub only : (n i : ℕ) → Names m n i (Child k) → (n ≡ node) × (i ≡ place)
  pub higher : level_of m k + 1 ≡ level_of m node
  pub contains : (j : ℕ) (e : Entry) → Stands m k j e → Within e.bounds entry.bounds

pub record Accepted (m : Model) : Type 0 where
  pub few : total_places m ≤ 2048
  -- every place holds an entry, and its target is in the book
  pub filled : (n i : ℕ) → i < place_count m n → (e : Entry) × Stands m n i e × InBook m (target_of m n e)
  -- every node but the root has a place and a parent
  pub peopled : (n : ℕ) → n < root_of m → 0 < place_count m n
  pub parent : (n : ℕ) → n < root_of m → Parent m n
  -- no two places name the same pick
  pub once : (p n i k j : ℕ) → Names m n i (Pick p) → Names m k j (Pick p) → (n ≡ k) × (i ≡ j)

-- each says the other
abbrev pub Exactly : Type 0 → Type 0 → Type 0
Exactly P Q = (P → Q) × (Q → P)
