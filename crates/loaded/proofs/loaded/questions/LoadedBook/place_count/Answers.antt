use Rattle.std.proofs.Common.{rules}
use Rattle.loaded.specs.TablesLemmas.{places_counted}
use Rattle.loaded.proofs.loaded.questions.LoadedBook.place_count.Goals as goal

pub returns : goal.returns
returns c =
    let b = c.args.self.now in
    let found = rw c.deref.ensures.value at c.get.ensures.lookup in
    places_counted b.nodes.items b.places.items b.kinds.items c.args.node c.map_or.result _ (λ x p. search rules) c.get.result found c.map_or.ensures b.lawful b.total
