use Rattle.std.proofs.Common.{w32}
use Rattle.std.proofs.lemmas.Int.{to_z-of_z}
use Rattle.geometry.proofs.Spans.{made}
use Rattle.geometry.proofs.bounds.Span.new.Goals as goal

pub returns-then-high-le-MOST : goal.returns-then-high-le-MOST
returns-then-high-le-MOST c =
    made _ c.args.low c.args.high (to_z-of_z w32 c.args.low c.ranges.low) (to_z-of_z w32 c.args.high c.ranges.high)
