use Rattle.std.proofs.Common.{◌≡◌, ◌≤◌, ◌++◌, drop, vec_items, vec_len, vec_capacity}
use Rattle.loaded.specs.Decode.{kinds_from}
use Rattle.loaded.proofs.picks.fill_kinds.Given as goal

abbrev pub invariant-loop-number : goal.invariant-loop-number
invariant-loop-number l = (vec_items l.table ++ kinds_from (drop l.number-index l.numbers) ≡ kinds_from l.numbers) × (vec_len l.table ≤ l.number-index) × (vec_capacity l.table ≡ vec_capacity l.initial.table)
