use Rattle.std.proofs.Common.{[], ◌∷◌, map, take, ap, ◌∙◌, arith}
use Rattle.std.proofs.lemmas.List.{map-append, take_more_set}
use Rattle.browse.specs.Desk.{thing_of}
use Rattle.browse.proofs.kids.Kids.add.Goals as goal

pub returns : goal.returns
returns c =
    let s = c.args.self.now in
    ap (map thing_of) (take_more_set s.table s.count c.args.kid (omega arith))
    ∙ map-append thing_of (take s.count s.table) (c.args.kid ∷ [])
