use Rattle.std.proofs.Common.{◌≡◌, ◌+◌, ◌≤◌, map, length, sym, refl, ap, arith}
use Rattle.std.proofs.lemmas.List.{length-map}
use Rattle.search.specs.Search.{Standing}
use Rattle.browse.specs.Thing.{Thing}
use Rattle.browse.specs.Desk.{thing_of}
use Rattle.browse.specs.Waitings.{length_waiting}
use Rattle.browse.proofs.desk.Desk.open.Goals as goal

-- one more is opened
abbrev more : Standing Thing → Standing Thing
more s = record { waiting = s.waiting; opened = s.opened + 1; told = s.told }

pub loop-kid-init : goal.loop-kid-init
loop-kid-init c =
    let s = c.args.self.now in
    let d = c.drop_first.new.self in
    let ks = c.all-kid-items.result.now in
    let long : length ks ≡ length (map thing_of ks) = sym (length-map ks thing_of) in
    let room : length ks + s.used ≤ 2049 = omega (arith, long, ap (λ l. length (map thing_of l)) c.all-kid-items.ensures, length_waiting s.used s.table (omega arith)) in
    (refl, omega (arith, room, c.drop_first.ensures.used), omega (arith, d.grown))
