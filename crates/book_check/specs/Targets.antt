-- What an entry names: a pick in a node of level 0, a child above that.
use Rattle.std.specs.Prelude.{ℕ, ◌+◌, ◌-◌, Bool, true, false, cond, ◌==◌, nat_lt}
use Rattle.book.specs.Model.{Model, node_count, pick_limit, level_of}
use Rattle.book.specs.declared.place.Entry.{Entry}
use Rattle.book_check.specs.declared.target.Target.{Target}
use Rattle.book_check.specs.declared.target.Target.TheVariants.{Pick, Child}

-- what an entry with the number k names in a node of this level
abbrev pub target_at : ℕ → ℕ → Target
target_at level k = cond (level == 0) (Pick k) (Child k)

-- what the entry e of node n names
abbrev pub target_of : Model → ℕ → Entry → Target
target_of m n e = target_at (level_of m n) e.target

-- a pick and a node are never the same, whatever their numbers
abbrev pub same : Target → Target → Bool
same (Pick p) (Pick q) = p == q
same (Pick p) (Child k) = false
same (Child k) (Pick p) = false
same (Child k) (Child l) = k == l

-- the number of the last node
abbrev pub root_of : Model → ℕ
root_of m = node_count m - 1

-- a pick below the limit, or a node other than the root
abbrev pub in_book : Model → Target → Bool
in_book m (Pick p) = nat_lt p (pick_limit m)
in_book m (Child k) = nat_lt k (root_of m)

-- whether t is one level lower than a node of this level, which every pick of a leaf is
abbrev pub one_lower : Model → ℕ → Target → Bool
one_lower m level (Pick p) = true
one_lower m level (Child k) = level_of m k + 1 == level
