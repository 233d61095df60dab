-- The book that three tables stand for: the node records, the places of all nodes in order, and the kinds of the picks.
-- Names no struct with facts of its own, so that such a struct's facts may cite it.
use Rattle.std.specs.Prelude.{ℕ, ◌+◌, Bool, true, ◌&&◌, List, [], ◌∷◌, map, take, drop, ◌==◌, nat_le, nat_lt, Some, None, Option}
use Rattle.book.specs.Model.{Node, Model}
use Rattle.book.specs.declared.kind.Kind.{Kind}
use Rattle.book.specs.declared.place.Entry.{Entry}
use Rattle.loaded.specs.declared.record.NodeRecord.{NodeRecord}

-- a node's places stand together, from its first entry on
abbrev pub node_of : List (Option Entry) → NodeRecord → Node
node_of all r = record { level = r.level; places = take r.places (drop r.first all) }

abbrev pub book_of : List NodeRecord → List (Option Entry) → List Kind → Model
book_of records all ks = record { nodes = map (node_of all) records; kinds = ks }

-- all places of these nodes together
abbrev pub places_of_all : List NodeRecord → ℕ
places_of_all [] = 0
places_of_all (r ∷ rs) = r.places + places_of_all rs

-- each first entry is the sum of the places of all earlier nodes, which have `earlier` places before these
abbrev pub firsts_add_up : ℕ → List NodeRecord → Bool
firsts_add_up earlier [] = true
firsts_add_up earlier (r ∷ rs) = r.first == earlier && firsts_add_up (earlier + r.places) rs

-- each level and number of places is within its limit
abbrev pub within_limits : List NodeRecord → Bool
within_limits [] = true
within_limits (r ∷ rs) = (nat_le r.level 7 && nat_le r.places 16) && within_limits rs

abbrev pub lawful_nodes : List NodeRecord → Bool
lawful_nodes rs = within_limits rs && firsts_add_up 0 rs

abbrev pub target_fits : Option Entry → Bool
target_fits (Some e) = nat_lt e.target 65536
target_fits None = true

abbrev pub all_targets_fit : List (Option Entry) → Bool
all_targets_fit [] = true
all_targets_fit (p ∷ ps) = target_fits p && all_targets_fit ps
