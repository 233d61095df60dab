use Rattle.std.proofs.Common.{◌<◌, arith}
use Rattle.book.specs.Model.{node_count}
use Rattle.book.proofs.Places.{places_in_more}
use Rattle.book.proofs.totals.total_places.Goals as goal

pub loop-node-preserved : goal.loop-node-preserved
loop-node-preserved g c =
    let m = g.B.Book.model c.args.book.now in
    let most = (g.met.B.Book.shape c.args.book.now).places_most c.loop-node.node in
    let within : c.loop-node.node < node_count m = omega arith in (
      omega (arith, most, c.place_count.ensures),
      omega (arith, c.place_count.ensures, places_in_more m.nodes c.loop-node.node within),
    )
