-- What is told of a refusal: its number and, where it has them, the node and the place.
use Rattle.std.specs.Prelude.{ℕ, Some, None, Ok, Err, Option, Result}
use Rattle.refusal.specs.declared.hands.FileFault.{FileFault}
use Rattle.refusal.specs.declared.hands.FileFault.TheVariants.{Length, Count, Nodes, Kind}
use Rattle.refusal.specs.declared.hands.TypingFault.{TypingFault}
use Rattle.refusal.specs.declared.hands.TypingFault.TheVariants.{OutOfRange, Reversed, ShiftAmount, Tally, Command, State, NotALevel}
use Rattle.refusal.specs.declared.hands.JoinFault.{JoinFault}
use Rattle.refusal.specs.declared.hands.JoinFault.TheVariants.{TooManyNodes, TooManyPicks, RootLevels, EmptyRoot}
use Rattle.refusal.specs.declared.hands.TreeFault.{TreeFault}
use Rattle.refusal.specs.declared.hands.TreeFault.TheVariants.{TooManyPlaces, NoPlaces, Spoilt, Target, ChildLevel, Outside, NamedTwice, Unnamed, Broken}
use Rattle.refusal.specs.declared.hands.SliceFault.{SliceFault}
use Rattle.refusal.specs.declared.hands.SliceFault.TheVariants.{TooShort, Sheet, Record}
use Rattle.refusal.specs.declared.refusal.Refusal.{Refusal}
use Rattle.refusal.specs.declared.refusal.Refusal.TheVariants.{File, Typing, Join, Tree, Slice}

pub record Told : Type 0 where
  pub number : ℕ
  pub node : Option ℕ
  pub place : Option ℕ

abbrev pub plain : ℕ → Told
plain k = record { number = k; node = None; place = None }

abbrev pub at_node : ℕ → ℕ → Told
at_node k n = record { number = k; node = Some n; place = None }

abbrev pub at_place : ℕ → ℕ → ℕ → Told
at_place k n i = record { number = k; node = Some n; place = Some i }

abbrev pub file_told : FileFault → Told
file_told Length = plain 1
file_told Count = plain 2
file_told Nodes = plain 3
file_told Kind = plain 4

abbrev pub typing_told : TypingFault → Told
typing_told OutOfRange = plain 5
typing_told Reversed = plain 6
typing_told ShiftAmount = plain 7
typing_told Tally = plain 24
typing_told Command = plain 25
typing_told State = plain 26
typing_told NotALevel = plain 27

abbrev pub join_told : JoinFault → Told
join_told TooManyNodes = plain 8
join_told TooManyPicks = plain 9
join_told RootLevels = plain 10
join_told EmptyRoot = plain 11

abbrev pub tree_told : TreeFault → Told
tree_told TooManyPlaces = plain 12
tree_told (NoPlaces node) = at_node 13 node
tree_told (Spoilt node place) = at_place 14 node place
tree_told (Target node place) = at_place 15 node place
tree_told (ChildLevel node place) = at_place 16 node place
tree_told (Outside node place) = at_place 17 node place
tree_told (NamedTwice node place) = at_place 18 node place
tree_told (Unnamed node) = at_node 19 node
tree_told (Broken node) = at_node 20 node

abbrev pub slice_told : SliceFault → Told
slice_told TooShort = plain 21
slice_told Sheet = plain 22
slice_told (Record place) = record { number = 23; node = None; place = Some place }

abbrev pub told : Refusal → Told
told (File fault) = file_told fault
told (Typing fault) = typing_told fault
told (Join fault) = join_told fault
told (Tree fault) = tree_told fault
told (Slice fault) = slice_told fault

-- a call's answer with its refusal as it is told; contracts equate this with a definition
abbrev pub answered : {A E : Type 0} → (E → Told) → Result A E → Result A Told
answered tell (Ok a) = Ok a
answered tell (Err e) = Err (tell e)
