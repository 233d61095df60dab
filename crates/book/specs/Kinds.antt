-- The numbers of the kinds.
use Rattle.std.specs.Prelude.{ℕ, cond, List, Some, None, codes, Option, Result, ok_or, ◌==◌}
use Rattle.book.specs.declared.kind.Kind.{Kind}
use Rattle.book.specs.declared.kind.UnknownKind.{UnknownKind}
use Rattle.book.specs.declared.kind.Kind.TheVariants.{CasingTop, Collar, Perforation, Marker, FluidLevel}

abbrev pub number_of : Kind → ℕ
number_of CasingTop = 1
number_of Collar = 2
number_of Perforation = 3
number_of Marker = 4
number_of FluidLevel = 5

-- the kind with this number, where there is one
abbrev pub kind_with : ℕ → Option Kind
kind_with n =
    cond (n == 1) (Some CasingTop)
    (cond (n == 2) (Some Collar)
    (cond (n == 3) (Some Perforation)
    (cond (n == 4) (Some Marker)
    (cond (n == 5) (Some FluidLevel) None))))

-- that kind, or the number that no kind has
abbrev pub kind_numbered : ℕ → Result Kind UnknownKind
kind_numbered n = ok_or (kind_with n) (record { 0 = n })

abbrev pub words : Kind → List ℕ
words CasingTop = codes "casing top"
words Collar = codes "collar"
words Perforation = codes "perforation"
words Marker = codes "marker"
words FluidLevel = codes "fluid level"
