use Rattle.std.proofs.Common.{◌≡◌, take, vec_items, vec_len, vec_capacity}
use Rattle.std.specs.Fn.{FnReturnsAt}
use Rattle.std.specs.List.{AllZip}
use Rattle.loaded.proofs.tables.fill.Given as goal

abbrev pub invariant-loop-record : goal.invariant-loop-record
invariant-loop-record g l = AllZip (λ r t. FnReturnsAt g.F.Fn l.read r t) (take l.record-index l.records) (vec_items l.table) × (vec_len l.table ≡ l.record-index) × (vec_capacity l.table ≡ vec_capacity l.initial.table)
