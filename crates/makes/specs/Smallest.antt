-- The smallest box around those that there are.
use Rattle.std.specs.Prelude.{◌≡◌, List, [], ◌∷◌, Some, None, Option}
use Rattle.std.specs.List.{AllByRecursion}
use Rattle.book.specs.declared.place.Entry.{Entry}
use Rattle.geometry.specs.Around.{bounds_around}
use Rattle.geometry.specs.Within.{Within}
use Rattle.geometry.specs.declared.bounds.Bounds.{Bounds}

-- around both, or around the one that there is
abbrev pub around_both : Option Bounds → Option Bounds → Option Bounds
around_both (Some a) (Some b) = bounds_around a b
around_both (Some a) None = Some a
around_both None b = b

-- the smallest box around those of a list that there are, if there is one
abbrev pub smallest : List (Option Bounds) → Option Bounds
smallest [] = None
smallest (b ∷ bs) = around_both b (smallest bs)

abbrev pub box_of : Option Entry → Option Bounds
box_of (Some e) = Some e.bounds
box_of None = None

abbrev pub LiesIn : Bounds → Option Bounds → Type 0
LiesIn c (Some b) = Within b c
LiesIn c None = Unit {0}

-- what the smallest box is: it holds each, and lies in whatever holds each; without a box there is none to hold
abbrev pub IsSmallest : List (Option Bounds) → Option Bounds → Type 0
IsSmallest bs (Some r) = AllByRecursion (LiesIn r) bs × ((c : Bounds) → AllByRecursion (LiesIn c) bs → Within r c)
IsSmallest bs None = AllByRecursion (λ b. b ≡ None) bs
