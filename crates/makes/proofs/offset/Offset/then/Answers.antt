use Rattle.std.proofs.Common.{ap, ◌∙◌}
use Rattle.makes.specs.Offset.{offset_of}
use Rattle.makes.specs.Offsets.{added_is, at_once}
use Rattle.makes.proofs.offset.Offset.then.Goals as goal

pub returns : goal.returns
returns c =
    let o = c.args.self.now in
    let next = c.args.next.now in
    let value = c.new.ensures ∙ ap offset_of (added_is o next) in
    record { value = value; once = at_once o.by next.by c.new.result value }
