-- Items, the things of which the law is stated: they have a distance, a class and a number.
use Rattle.std.specs.Prelude.{ℕ, ◌≤◌, Bool, true, false, ◌&&◌, ◌||◌, List, ◌==◌, nat_lt}
use Rattle.std.specs.List.{AllByRecursion}
use Rattle.search.specs.Tree.{Tree, below, finals, Sound}
use Rattle.search.specs.Lawful.{Lawful, NearestIsTold}

-- to be opened, or to be told
pub data Class : Type 0 where
  node : Class
  final : Class

pub record Item : Type 0 where
  pub distance : ℕ
  pub class : Class
  pub number : ℕ

abbrev pub is_node : Class → Bool
is_node node = true
is_node final = false

-- at one distance nodes come first: what they hold may be no farther
abbrev pub rank : Class → ℕ
rank node = 0
rank final = 1

-- by distance, then nodes before finals, then lower number
abbrev pub before_item : Item → Item → Bool
before_item x y =
    nat_lt x.distance y.distance || (x.distance == y.distance && (nat_lt (rank x.class) (rank y.class) || (rank x.class == rank y.class && nat_lt x.number y.number)))

abbrev pub item_tree : (Item → List Item) → (Item → ℕ) → Item → Tree Item
item_tree kids height root = record { distance = λ x. x.distance; opens = λ x. is_node x.class; before = before_item; kids = kids; height = height; root = root }

-- for every tree that is sound from its root down, and every limit that none of its finals is beyond
abbrev pub SearchIsLawful : Type 0
SearchIsLawful = (kids : Item → List Item) (height : Item → ℕ) (root : Item) → AllByRecursion (Sound (item_tree kids height root)) (below (item_tree kids height root) root) →
    (unlimited : ℕ) → AllByRecursion (λ x. x.distance ≤ unlimited) (finals (item_tree kids height root)) → Lawful (item_tree kids height root) unlimited

abbrev pub NextTellsTheNearest : Type 0
NextTellsTheNearest = (kids : Item → List Item) (height : Item → ℕ) (root : Item) → AllByRecursion (Sound (item_tree kids height root)) (below (item_tree kids height root) root) →
    NearestIsTold (item_tree kids height root)
