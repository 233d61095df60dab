-- Best-first search of a tree: what waits, one glance at the first of it, and what turns are answered.
use Rattle.std.specs.Prelude.{ℕ, ◌+◌, ◌-◌, cond, List, [], ◌∷◌, length, nat_le}
use Rattle.search.specs.declared.turn.Call.{Call}
use Rattle.search.specs.declared.turn.Call.TheVariants.{Next, Report}
use Rattle.search.specs.declared.turn.Turn.{Turn}
use Rattle.search.specs.Waiting.{inserts}
use Rattle.search.specs.Tree.{Tree, nodes}
use Rattle.search.specs.Answer.{Answer, none, told, counts}
use Rattle.search.specs.Glances.{Glance, done, on, follow, finish}
use Rattle.search.specs.Turns.{answers_from}

-- Where a search stands: what waits, in order, how many nodes were opened, how many rows were told.
pub record Standing (X : Type 0) : Type 0 where
  pub waiting : List X
  pub opened : ℕ
  pub told : ℕ

-- a search just begun: only the root waits
abbrev pub start : {X : Type 0} → X → Standing X
start root = record { waiting = root ∷ []; opened = 0; told = 0 }

-- the first is told; w stood behind it
abbrev pub tell_first : {X : Type 0} → Standing X → List X → Standing X
tell_first s w = record { waiting = w; opened = s.opened; told = s.told + 1 }

-- the first, x, is opened: its kids come to wait; w stood behind it
abbrev pub open_first : {X : Type 0} → Tree X → Standing X → X → List X → Standing X
open_first t s x w = record { waiting = inserts t.before (t.kids x) w; opened = s.opened + 1; told = s.told }

-- One glance at what stands first. Beyond the limit nothing is opened or told, and all goes on waiting.
abbrev pub glance_at : {X : Type 0} → Tree X → ℕ → Standing X → List X → Glance (Answer X) (Standing X)
glance_at t limit s [] = done (none s.opened) s
glance_at t limit s (x ∷ w) = cond (nat_le (t.distance x) limit) (cond (t.opens x) (on (open_first t s x w)) (done (told x s.opened) (tell_first s w))) (done (none s.opened) s)

abbrev pub glance : {X : Type 0} → Tree X → ℕ → Standing X → Glance (Answer X) (Standing X)
glance t limit s = glance_at t limit s s.waiting

-- Glance after glance until one answers. Each that goes on opens a node, so there are never more of them than nodes left.
abbrev pub next : {X : Type 0} → Tree X → ℕ → Standing X → Answer X × Standing X
next t limit s = finish (λ u. none u.opened) (follow (glance t limit) (length (nodes t) - s.opened) s)

abbrev pub called : {X : Type 0} → Tree X → Standing X → Call → Answer X × Standing X
called t s (Next limit) = next t limit s
called t s Report = (counts s.told s.opened, s)

-- whichever hand it is
abbrev pub turned : {X : Type 0} → Tree X → Standing X → Turn → Answer X × Standing X
turned t s u = called t s u.call

-- what a search just begun answers
abbrev pub answers : {X : Type 0} → Tree X → List Turn → List (Answer X)
answers t turns = answers_from (turned t) (start t.root) turns
