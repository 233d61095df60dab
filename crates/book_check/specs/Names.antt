-- Which targets the places of a book name.
use Rattle.std.specs.Prelude.{ℕ, Bool, false, ◌||◌, Some, None, Option}
use Rattle.book.specs.Model.{Model, node_count, pick_limit, place_count, place_of}
use Rattle.book.specs.declared.place.Entry.{Entry}
use Rattle.book_check.specs.Below.{some_below, count_below}
use Rattle.book_check.specs.Targets.{target_of, same}
use Rattle.book_check.specs.declared.target.Target.{Target}
use Rattle.book_check.specs.declared.target.Target.TheVariants.{Pick}

abbrev pub names_in : Model → ℕ → Option Entry → Target → Bool
names_in m n None t = false
names_in m n (Some e) t = same t (target_of m n e)

-- whether place i of node n names t
unfoldable pub names : Model → ℕ → ℕ → Target → Bool
names m n i t = names_in m n (place_of m n i) t

-- whether one of the first i places of node n names t
abbrev pub named_within : Model → ℕ → ℕ → Target → Bool
named_within m n i t = some_below (λ j. names m n j t) i

-- whether a place of one of the first n nodes names t
abbrev pub named_below : Model → ℕ → Target → Bool
named_below m n t = some_below (λ k. named_within m k (place_count m k) t) n

-- whether an earlier node than n, or an earlier place than i of node n, names t
unfoldable pub named_before : Model → ℕ → ℕ → Target → Bool
named_before m n i t = named_within m n i t || named_below m n t

-- whether any place names t
unfoldable pub is_named : Model → Target → Bool
is_named m t = named_below m (node_count m) t

-- how many different picks entries name
unfoldable pub picks_named : Model → ℕ
picks_named m = count_below (λ p. is_named m (Pick p)) (pick_limit m)
