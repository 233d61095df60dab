-- What waits: a node or a pick, by the entry that names it.
use Rattle.std.specs.Prelude.{ℕ, Bool, true, false, cond, ℤ, nat_lt}
use Rattle.browse.specs.declared.waiting.Class.{Class}
use Rattle.browse.specs.declared.waiting.Class.TheVariants.{Node, Pick}

-- top is the high end of level of the entry's box
pub record Thing : Type 0 where
  pub distance : ℕ
  pub class : Class
  pub number : ℕ
  pub top : ℤ

abbrev pub opens : Class → Bool
opens Node = true
opens Pick = false

-- nodes before picks
abbrev pub rank : Class → ℕ
rank Node = 0
rank Pick = 1

-- by the first of two numbers, and at equal ones as the rest says
abbrev pub or_else : ℕ → ℕ → Bool → Bool
or_else a b rest = cond (nat_lt a b) true (cond (nat_lt b a) false rest)

-- by distance, then nodes before picks, then by number. Of equals the one that came first stands first.
abbrev pub before : Thing → Thing → Bool
before x y =
    or_else x.distance y.distance (or_else (rank x.class) (rank y.class) (nat_lt x.number y.number))
