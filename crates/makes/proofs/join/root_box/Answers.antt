use Rattle.std.proofs.Common.{◌+◌, ◌<◌, length, drop, ap, ◌∙◌, arith, rules}
use Rattle.makes.specs.Smallest.{around_both, smallest}
use Rattle.makes.specs.Join.{root_boxes}
use Rattle.makes.proofs.Joins.{root_boxes_count, root_box_at, box_more, box_all}
use Rattle.makes.proofs.join.root_box.Goals as goal

pub loop-index-preserved : goal.loop-index-preserved
loop-index-preserved g c =
    let m = g.B.Book.model c.args.book.now in
    let i = c.loop-index.index in
    let lt : i < length (root_boxes m) = omega (arith, root_boxes_count m c.args.sizes.now c.requires) in
    let one =
    root_box_at m c.args.sizes.now c.requires _ i _ _ c.map.result c.level-level.ensures c.place.ensures
    c.renumbered-place.ensures (search rules)
    in
    ap (λ b. around_both b (smallest (drop (i + 1) (root_boxes m)))) c.around_both-bounds.ensures
    ∙ box_more c.loop-index.bounds c.map.result _ (root_boxes m) i lt one c.loop-index.invariant

pub returns : goal.returns
returns g c =
    let m = g.B.Book.model c.args.book.now in
    box_all c.loop-index.bounds _ (root_boxes m) c.loop-index.index
    (omega (arith, root_boxes_count m c.args.sizes.now c.requires)) c.loop-index.invariant
