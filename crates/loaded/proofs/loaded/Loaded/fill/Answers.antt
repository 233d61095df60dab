use Rattle.std.proofs.Common.{◌≡◌, vec_items, ap, ◌∙◌, arith, rules}
use Rattle.loaded.specs.Decode.{node_from, place_from, kinds_from}
use Rattle.loaded.specs.Seen.{nodes_in, places_in, kinds_in}
use Rattle.loaded.proofs.Filling.{zip_map, zip_fits, some_nodes, most_nodes, nodes_lawful, places_total, most_picks}
use Rattle.loaded.proofs.loaded.Loaded.fill.Goals as goal

pub invariant_of-self : goal.invariant_of-self
invariant_of-self c =
    let s = c.args.sections in
    let f = c.requires in
    let ns = vec_items c.fill.new.table in
    let ps = vec_items c.fill-2.new.table in
    let nodes : ns ≡ nodes_in s.nodes = zip_map _ node_from (λ x y r. search rules) _ _ c.fill.ensures.items in
    let places : ps ≡ places_in s.entries = zip_map _ place_from (λ x y r. search rules) _ _ c.fill-2.ensures.items in
    let kinds : vec_items c.fill_kinds.new.table ≡ kinds_in s.picks = c.fill_kinds.ensures.items ∙ ap kinds_from c.as_flattened.ensures.value in
    let held = c.args.self.now in
    record {
      some = some_nodes s f ns nodes;
      nodes_most = most_nodes s f ns nodes;
      picks_most = most_picks s f (vec_items c.fill_kinds.new.table) kinds;
      lawful = nodes_lawful s f ns nodes;
      total = places_total s f ns nodes ps places;
      targets = zip_fits _ (λ x y r. search rules) _ _ c.fill-2.ensures.items;
      node_room = omega (arith, c.fill.ensures.room, held.node_room);
      place_room = omega (arith, c.fill-2.ensures.room, held.place_room);
      kind_room = omega (arith, c.fill_kinds.ensures.room, held.kind_room);
    }

pub returns : goal.returns
returns c =
    let s = c.args.sections in
    let ns = vec_items c.fill.new.table in
    let ps = vec_items c.fill-2.new.table in
    let nodes : ns ≡ nodes_in s.nodes = zip_map _ node_from (λ x y r. search rules) _ _ c.fill.ensures.items in
    let places : ps ≡ places_in s.entries = zip_map _ place_from (λ x y r. search rules) _ _ c.fill-2.ensures.items in
    let kinds : vec_items c.fill_kinds.new.table ≡ kinds_in s.picks = c.fill_kinds.ensures.items ∙ ap kinds_from c.as_flattened.ensures.value in
    rw (nodes, places, kinds)
