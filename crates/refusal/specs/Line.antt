-- The line that is printed of a refusal.
use Rattle.std.specs.Prelude.{ℕ, List, ◌++◌, Some, None, codes, decimal, Option}
use Rattle.refusal.specs.Told.{Told}

-- the node and the entry stand where there are such
abbrev pub refused_as : ℕ → Option ℕ → Option ℕ → List ℕ
refused_as number (Some node) (Some place) =
    codes "refused " ++ (decimal number ++ (codes " node " ++ (decimal node ++ (codes " entry " ++ decimal place))))
refused_as number (Some node) None = codes "refused " ++ (decimal number ++ (codes " node " ++ decimal node))
refused_as number None (Some place) = codes "refused " ++ (decimal number ++ (codes " entry " ++ decimal place))
refused_as number None None = codes "refused " ++ decimal number

-- refused 14 node 2 entry 0
abbrev pub refused_line : Told → List ℕ
refused_line t = refused_as t.number t.node t.place
