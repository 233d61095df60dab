use Rattle.std.proofs.Common.{◌≡◌, ◌*◌, ◌≤◌, map, drop}
use Rattle.loaded.specs.Decode.{node_from}
use Rattle.loaded.specs.Tables.{firsts_add_up}
use Rattle.loaded.proofs.nodes.firsts_add_up.Given as goal

abbrev pub invariant-loop-record : goal.invariant-loop-record
invariant-loop-record l = (firsts_add_up l.earlier (map node_from (drop l.record-index l.records)) ≡ firsts_add_up 0 (map node_from l.records)) × (l.earlier ≤ 255 * l.record-index)
