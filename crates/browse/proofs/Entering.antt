-- A node's kids come to wait, one after another.
use Rattle.std.proofs.Common.{◌≡◌, ℕ, ◌+◌, ◌*◌, ◌≤◌, List, map, length, drop}
use Rattle.search.specs.Search.{Standing}
use Rattle.search.specs.Waiting.{inserts}
use Rattle.browse.specs.declared.waiting.Waiting.{Waiting}
use Rattle.browse.specs.declared.desk.Desk.{Desk}
use Rattle.browse.specs.Thing.{Thing, before}
use Rattle.browse.specs.Desk.{thing_of, standing}

abbrev pub with_all : List Waiting → Standing Thing → Standing Thing
with_all ks s = record { waiting = inserts before (map thing_of ks) s.waiting; opened = s.opened; told = s.told }

-- The first i of the kids wait at the desk d, and with the others it will stand as s with all of them.
abbrev pub Entering : Standing Thing → List Waiting → Desk → ℕ → Type 0
Entering s ks d i =
    (with_all (drop i ks) (standing d) ≡ with_all ks s)
    × (d.used + length ks ≤ 2048 + i)
    × (d.arrivals + 16 ≤ 16 * d.opened + 1 + i)
