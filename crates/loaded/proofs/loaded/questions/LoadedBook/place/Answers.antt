use Rattle.std.proofs.Common.{get_or, sym, ap, ◌∙◌, arith, None}
use Rattle.book.specs.Model.{Node}
use Rattle.loaded.specs.TablesLemmas.{at_node_lem, within_at, at_place}
use Rattle.loaded.proofs.loaded.questions.LoadedBook.place.Goals as goal

pub index-requires : goal.index-requires
index-requires c =
    let b = c.args.self.now in
    let found = rw c.deref.ensures.value at c.in_ok-record.ensures.lookup in
    let w = within_at b.nodes.items c.args.node c.in_ok-record.record.now found.3.0 found.1 b.lawful in
    omega arith

pub returns : goal.returns
returns c =
    let b = c.args.self.now in
    let r = c.in_ok-record.record.now in
    let found = rw c.deref.ensures.value at c.in_ok-record.ensures.lookup in
    let node = at_node_lem b.nodes.items b.places.items b.kinds.items c.args.node r found.3.0 found.1 in
    let w = within_at b.nodes.items c.args.node r found.3.0 found.1 b.lawful in
    sym (ap (λ (n : Node). get_or n.places c.args.index None) node ∙ at_place b.places.items r c.args.index c.index.result.now (omega arith) c.index.ensures (omega arith))
