-- Where a browse stands by its table, and what is done there.
use Rattle.std.specs.Prelude.{ℕ, ◌+◌, List, map, take, pos, Some, None, Option}
use Rattle.queue.specs.Heap.{queued, behind}
use Rattle.search.specs.Search.{Standing}
use Rattle.search.specs.Waiting.{insert, inserts}
use Rattle.browse.specs.declared.waiting.Class.TheVariants.{Node}
use Rattle.browse.specs.declared.waiting.Waiting.{Waiting}
use Rattle.browse.specs.declared.kids.Kids.{Kids}
use Rattle.browse.specs.declared.desk.Desk.{Desk}
use Rattle.browse.specs.Thing.{Thing, before}
use Rattle.browse.specs.Sooner.{sooner}

-- what waits, whenever it came
abbrev pub thing_of : Waiting → Thing
thing_of w = record { distance = w.distance; class = w.class; number = w.number; top = w.top }

abbrev pub one_of : Option Waiting → Option Thing
one_of None = None
one_of (Some w) = Some (thing_of w)

-- the kids of a node, lower place first
abbrev pub kids_held : Kids → List Thing
kids_held k = map thing_of (take k.count k.table)

abbrev pub kids_of : Option Kids → Option (List Thing)
kids_of None = None
kids_of (Some k) = Some (kids_held k)

-- where the browse stands: the table read as a list in order
abbrev pub standing : Desk → Standing Thing
standing d = record {
  waiting = map thing_of (queued sooner d.used d.table);
  opened = d.opened;
  told = d.told;
}

abbrev pub node_at0 : ℕ → Thing
node_at0 n = record { distance = 0; class = Node; number = n; top = pos 0 }

-- the first waits no more
abbrev pub without_first : Standing Thing → Standing Thing
without_first s = record { waiting = behind s.waiting; opened = s.opened; told = s.told }

abbrev pub with_one : Thing → Standing Thing → Standing Thing
with_one x s = record { waiting = insert before x s.waiting; opened = s.opened; told = s.told }

-- the first is opened, and these come to wait
abbrev pub opened_to : List Thing → Standing Thing → Standing Thing
opened_to kids s = record { waiting = inserts before kids (behind s.waiting); opened = s.opened + 1; told = s.told }
