use Rattle.std.proofs.Common.{◌≡◌, [], ◌∷◌, length, ap, ◌∙◌}
use Rattle.book.specs.Model.{node_of}
use Rattle.file.specs.Encode.{le16}
use Rattle.file.specs.Pen.{wrote}
use Rattle.file.proofs.Pens.{wrote_both}
use Rattle.file.proofs.nodes.put_node.Goals as goal

pub returns : goal.returns
returns g c =
    let n = node_of (g.B.Book.model c.args.book.now) c.args.node in
    let head : c.level.result ∷ c.place_count.result ∷ [] ≡ n.level ∷ length n.places ∷ [] = cc in
    let first = c.put_bytes.ensures ∙ ap (wrote c.args.pen.now) head in
    wrote_both c.args.pen.now (n.level ∷ length n.places ∷ []) (le16 c.args.first) c.requires first c.put_u16.ensures
