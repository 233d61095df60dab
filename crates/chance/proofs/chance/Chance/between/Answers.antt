use Rattle.std.proofs.Common.{arith, w32}
use Rattle.std.proofs.lemmas.Int.{to_z-of_z}
use Rattle.chance.proofs.chance.Chance.between.Goals as goal

pub returns-then-low-high-clause-number : goal.returns-then-low-high-clause-number
returns-then-low-high-clause-number c =
    let above = to_z-of_z w32 c.above.result (record { sfits = c.above.type_inv }) in
    let low = to_z-of_z w32 c.args.low c.ranges.low in
    let high = to_z-of_z w32 c.args.high c.ranges.high in
    grind (arith, above, low, high)
