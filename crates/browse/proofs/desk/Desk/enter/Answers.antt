use Rattle.std.proofs.Common.{◌+◌, ◌<◌, map, length, ap, ◌∙◌, arith}
use Rattle.queue.specs.Heap.{queued}
use Rattle.browse.specs.declared.waiting.Waiting.{Waiting}
use Rattle.browse.specs.declared.desk.Desk.{Desk}
use Rattle.browse.specs.Sooner.{sooner, came_before}
use Rattle.browse.specs.Desk.{thing_of}
use Rattle.browse.specs.Waitings.{entered, came_entered}
use Rattle.browse.proofs.desk.Desk.enter.Goals as goal

-- the kid, as it comes to this desk
abbrev newcomer : Waiting → Desk → Waiting
newcomer kid s = record { distance = kid.distance; class = kid.class; number = kid.number; arrival = s.arrivals; top = kid.top }

pub invariant_of-self-clause-fresh : goal.invariant_of-self-clause-fresh
invariant_of-self-clause-fresh c =
    let s = c.args.self.now in
    let room : s.used < length s.table = omega arith in
    ap (came_before (s.arrivals + 1)) (c.push.ensures.queue room) ∙ came_entered (newcomer c.args.kid s) (queued sooner s.used s.table) s.fresh

pub returns-clause-standing : goal.returns-clause-standing
returns-clause-standing c =
    let s = c.args.self.now in
    let room : s.used < length s.table = omega arith in
    let e = ap (map thing_of) (c.push.ensures.queue room) ∙ entered (newcomer c.args.kid s) (queued sooner s.used s.table) s.fresh in
    λ i. record { waiting = e i; opened = s.opened; told = s.told }
