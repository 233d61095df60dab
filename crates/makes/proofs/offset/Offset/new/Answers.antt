use Rattle.std.proofs.Common.{sym}
use Rattle.makes.specs.Offsets.{made_offset, no_offset}
use Rattle.makes.proofs.offset.Offset.new.Goals as goal

pub returns-then-in_range : goal.returns-then-in_range
returns-then-in_range c = made_offset _

pub returns-else-in_range : goal.returns-else-in_range
returns-else-in_range c = no_offset c.args.by (sym c.if-in_range.ensures)
