-- Nodes and places of the tree by sixteens, from the number of picks alone.
use Rattle.std.specs.Prelude.{ℕ, ◌+◌, ◌-◌, ◌*◌, ◌<◌, ◌≤◌, cond, ◌&&◌, List, take, drop, Some, None, Option, ◌==◌, nat_le, nat_lt}
use Rattle.book.specs.declared.place.Entry.{Entry}
use Rattle.geometry.specs.declared.bounds.Bounds.{Bounds}
use Rattle.makes.specs.Places.{place_for}
use Rattle.makes.specs.Sixteens.{group_count}
use Rattle.makes.specs.Smallest.{smallest}
use Rattle.makes.specs.declared.sixteens.Sixteens.{Sixteens}
use Rattle.makes.specs.declared.sixteens.Row.{Row}
use Rattle.makes.specs.declared.sixteens.Covered.{Covered}

-- there is a tree over 1 to 1,000 picks
abbrev pub tree_count : ℕ → Option ℕ
tree_count n = cond (nat_le 1 n && nat_le n 1000) (Some n) None

abbrev pub count_of : Option Sixteens → Option ℕ
count_of (Some t) = Some t.count
count_of None = None

abbrev pub leaf_row : ℕ → Row
leaf_row n = record { level = 0; first = 0; target = 0; places = n; below = 1 }

abbrev pub middle_row : ℕ → Row
middle_row n = record { level = 1; first = group_count n; target = 0; places = group_count n; below = 16 }

abbrev pub top_row : ℕ → Row
top_row n =
    record {
      level = 2;
      first = group_count n + group_count (group_count n);
      target = group_count n;
      places = group_count (group_count n);
      below = 256;
    }

-- the row above, which names this row's nodes, unless this row is one node
abbrev pub row_above : Row → Option Row
row_above r =
    cond (nat_le r.places 16) None
    (Some (record {
      level = r.level + 1;
      first = r.first + group_count r.places;
      target = r.first;
      places = group_count r.places;
      below = 16 * r.below;
    }))

-- the row of a node of the tree over n picks, at most 1,000
abbrev pub row_of : ℕ → ℕ → Option Row
row_of n node =
    cond (nat_lt node (group_count n)) (Some (leaf_row n))
    (cond (nat_le n 16) None
    (cond (nat_lt node (group_count n + group_count (group_count n))) (Some (middle_row n))
    (cond (nat_le (group_count n) 16) None
    (cond (node == group_count n + group_count (group_count n)) (Some (top_row n)) None))))

-- some of the picks, all below n
abbrev pub Within : ℕ → Option Covered → Type 0
Within n (Some c) = (c.start < c.end) × (c.end ≤ n)
Within n None = Unit {0}

-- the place that stands for these picks: the smallest box around those that have one
abbrev pub covered_place : List (Option Bounds) → Option Covered → Option Entry
covered_place boxes (Some c) = place_for c.target (smallest (take (c.end - c.start) (drop c.start boxes)))
covered_place boxes None = None
