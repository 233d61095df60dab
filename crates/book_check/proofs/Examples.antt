-- The check at work on small books, one for each fault.
use Rattle.std.proofs.Common.{◌≡◌, ℕ, List, [], ◌∷◌, map, replicate, pos, Ok, Err, Result, refl, Some, None, Option}
use Rattle.refusal.specs.Told.{Told, plain, at_node, at_place}
use Rattle.geometry.specs.Contains.{contains}
use Rattle.geometry.specs.declared.bounds.Span.{Span}
use Rattle.geometry.specs.declared.bounds.Bounds.{Bounds}
use Rattle.book.specs.Model.{Model, Node, empty_book}
use Rattle.book.specs.declared.kind.Kind.TheVariants.{Marker}
use Rattle.book.specs.declared.place.Entry.{Entry}
use Rattle.book_check.specs.Below.{count_below}
use Rattle.book_check.specs.Names.{names, named_before, is_named, picks_named}
use Rattle.book_check.specs.Sound.{sticks_out, sound_target}
use Rattle.book_check.specs.Checked.{place_fault, node_fault, tree_fault, checked}

abbrev span : Span → Bounds
span s = record { easting = s; northing = s; level = s }

-- 0 to 10, 2 to 3 and 5 to 20 on each axis
abbrev wide : Bounds
wide = span (record { low = pos 0; high = pos 10; least = record { le = tt }; ordered = record { le = tt }; most = record { le = tt } })

abbrev small : Bounds
small = span (record { low = pos 2; high = pos 3; least = record { le = tt }; ordered = record { le = tt }; most = record { le = tt } })

abbrev long : Bounds
long = span (record { low = pos 5; high = pos 20; least = record { le = tt }; ordered = record { le = tt }; most = record { le = tt } })

abbrev entry : Bounds → ℕ → Option Entry
entry b t = Some (record { bounds = b; target = t })

abbrev node : ℕ → List (Option Entry) → Node
node v ps = record { level = v; places = ps }

-- a book of these nodes, with four picks
abbrev book : List Node → Model
book ns = record { nodes = ns; kinds = Marker ∷ Marker ∷ Marker ∷ Marker ∷ [] }

-- a leaf with one pick
abbrev leaf : ℕ → Node
leaf p = node 0 (entry small p ∷ [])

-- ---- accepted

-- a pick and a node of the same number do not meet
abbrev two_levels : Model
two_levels = book (leaf 0 ∷ node 1 (entry wide 0 ∷ []) ∷ [])

-- the root is the last node, wherever its children stand
abbrev parent_first : Model
parent_first = book (node 1 (entry wide 1 ∷ []) ∷ leaf 3 ∷ node 2 (entry wide 0 ∷ []) ∷ [])

abbrev four_picks : Model
four_picks =
    book (
    node 0 (entry small 3 ∷ entry wide 1 ∷ [])
    ∷ node 0 (entry long 0 ∷ entry long 2 ∷ [])
    ∷ node 1 (entry long 1 ∷ entry wide 0 ∷ [])
    ∷ [])

-- ---- refused

abbrev crowded : Model
crowded = book (replicate 129 (node 0 (replicate 16 None)))

abbrev barren : Model
barren = book (node 0 [] ∷ node 1 (entry wide 0 ∷ []) ∷ [])

-- 13 stands at a node before its places, and after the nodes before it
abbrev spoilt_before_barren : Model
spoilt_before_barren = book (node 0 (None ∷ []) ∷ node 0 [] ∷ node 1 (entry wide 0 ∷ []) ∷ [])

abbrev spoilt : Model
spoilt = book (node 0 (entry small 0 ∷ None ∷ []) ∷ [])

abbrev no_such_pick : Model
no_such_pick = book (node 0 (entry small 4 ∷ []) ∷ [])

abbrev names_root : Model
names_root = book (leaf 0 ∷ node 1 (entry wide 0 ∷ entry wide 1 ∷ []) ∷ [])

-- a target beyond all nodes, of which a level is asked only after it
abbrev no_such_node : Model
no_such_node = book (leaf 0 ∷ node 1 (entry wide 2 ∷ []) ∷ [])

abbrev two_lower : Model
two_lower = book (leaf 0 ∷ node 2 (entry wide 0 ∷ []) ∷ [])

abbrev same_level : Model
same_level = book (node 1 (entry wide 1 ∷ []) ∷ node 1 (entry wide 0 ∷ []) ∷ node 1 (entry wide 0 ∷ []) ∷ [])

abbrev high_end_outside : Model
high_end_outside = book (node 0 (entry small 0 ∷ entry long 1 ∷ []) ∷ node 1 (entry wide 0 ∷ []) ∷ [])

abbrev low_end_outside : Model
low_end_outside = book (node 0 (entry small 0 ∷ []) ∷ node 1 (entry long 0 ∷ []) ∷ [])

-- the parent has the lower number: its 17 comes before the child's own 14
abbrev outside_first : Model
outside_first = book (node 1 (entry small 1 ∷ []) ∷ node 0 (None ∷ entry wide 0 ∷ []) ∷ node 2 (entry wide 0 ∷ []) ∷ [])

-- the child's spoilt place is passed over by 17
abbrev spoilt_child : Model
spoilt_child = book (node 1 (entry small 1 ∷ []) ∷ node 0 (None ∷ entry small 0 ∷ []) ∷ node 2 (entry wide 0 ∷ []) ∷ [])

-- named twice, and the second box is too small: 17 stands before 18
abbrev twice_too_small : Model
twice_too_small = book (node 0 (entry wide 0 ∷ []) ∷ node 1 (entry wide 0 ∷ entry small 0 ∷ []) ∷ [])

abbrev child_twice : Model
child_twice = book (leaf 0 ∷ node 1 (entry wide 0 ∷ entry wide 0 ∷ []) ∷ [])

abbrev pick_twice : Model
pick_twice = book (leaf 2 ∷ node 0 (entry small 1 ∷ entry small 2 ∷ []) ∷ node 1 (entry wide 0 ∷ entry wide 1 ∷ []) ∷ [])

-- the lowest of those that none names
abbrev unnamed : Model
unnamed = book (leaf 0 ∷ leaf 1 ∷ leaf 2 ∷ node 1 (entry wide 1 ∷ []) ∷ [])

abbrev cases : List (Model × Result ℕ Told)
cases =
    (empty_book, Ok 0)
    ∷ (two_levels, Ok 1)
    ∷ (parent_first, Ok 1)
    ∷ (four_picks, Ok 4)
    ∷ (crowded, Err (plain 12))
    ∷ (barren, Err (at_node 13 0))
    ∷ (spoilt_before_barren, Err (at_place 14 0 0))
    ∷ (spoilt, Err (at_place 14 0 1))
    ∷ (no_such_pick, Err (at_place 15 0 0))
    ∷ (names_root, Err (at_place 15 1 1))
    ∷ (no_such_node, Err (at_place 15 1 0))
    ∷ (two_lower, Err (at_place 16 1 0))
    ∷ (same_level, Err (at_place 16 0 0))
    ∷ (high_end_outside, Err (at_place 17 1 0))
    ∷ (low_end_outside, Err (at_place 17 1 0))
    ∷ (outside_first, Err (at_place 17 0 0))
    ∷ (spoilt_child, Err (at_place 14 1 0))
    ∷ (twice_too_small, Err (at_place 17 1 1))
    ∷ (child_twice, Err (at_place 18 1 1))
    ∷ (pick_twice, Err (at_place 18 1 1))
    ∷ (unnamed, Err (at_node 19 0))
    ∷ []

pub shown : map (λ c. checked c.0) cases ≡ map (λ c. c.1) cases
unfolding checked tree_fault node_fault place_fault sound_target sticks_out names named_before is_named picks_named count_below contains
shown = refl
