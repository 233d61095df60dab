-- A book with every box moved.
use Rattle.std.specs.Prelude.{◌≡◌, true, map, is_some, Ok, Err, Result, Some, None, Option}
use Rattle.std.specs.List.{AllByRecursion}
use Rattle.book.specs.Model.{Node, Model}
use Rattle.book.specs.declared.place.Entry.{Entry}
use Rattle.geometry.specs.Moved.{moved_bounds}
use Rattle.geometry.specs.declared.bounds.Point.{Point}
use Rattle.refusal.specs.declared.hands.TypingFault.{TypingFault}
use Rattle.makes.specs.Places.{place_for}
use Rattle.makes.specs.declared.offset.Offset.{Offset}

-- a box that would leave the range is lost, and a spoilt place stays so
abbrev pub shifted_place : Point → Option Entry → Option Entry
shifted_place by (Some e) = place_for e.target (moved_bounds e.bounds by)
shifted_place by None = None

abbrev pub shifted_node : Point → Node → Node
shifted_node by n = record { level = n.level; places = map (shifted_place by) n.places }

-- the book moved by three amounts, one an axis
abbrev pub shifted : Point → Model → Model
shifted by m = record { nodes = map (shifted_node by) m.nodes; kinds = m.kinds }

-- the place's box, if there is one, stays in range
abbrev pub StaysIn : Point → Option Entry → Type 0
StaysIn by (Some e) = is_some (moved_bounds e.bounds by) ≡ true
StaysIn by None = Unit {0}

-- no box of the book leaves the range
abbrev pub Stays : Point → Model → Type 0
Stays by m = AllByRecursion (λ n. AllByRecursion (StaysIn by) n.places) m.nodes

-- one offset does what two do, wherever no box leaves the range by the first
abbrev pub AtOnce : Point → Point → Result Offset TypingFault → Type 0
AtOnce by next (Ok both) = (m : Model) → Stays by m → shifted next (shifted by m) ≡ shifted both.by m
AtOnce by next (Err fault) = Unit {0}
