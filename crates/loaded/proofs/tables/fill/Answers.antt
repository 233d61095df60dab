use Rattle.std.proofs.Common.{vec_items, refl, arith}
use Rattle.std.proofs.lemmas.Fn.{says_at}
use Rattle.std.specs.Fn.{FnReturnsAt}
use Rattle.loaded.proofs.Filling.{zip_next}
use Rattle.loaded.proofs.tables.fill.Goals as goal

pub loop-record-preserved : goal.loop-record-preserved
loop-record-preserved g c =
    let table = c.loop-record.table in
    let now = zip_next (λ r t. FnReturnsAt g.F.Fn c.args.read r t) c.args.records.now (vec_items table) c.loop-record.record-index c.record-item.result c.read.result (omega arith) c.record-item.is c.loop-record.invariant.0 (says_at g.F.Fn c.read.ensures refl) in
    (rw c.push_reserved.ensures.items now, omega arith, omega arith)
