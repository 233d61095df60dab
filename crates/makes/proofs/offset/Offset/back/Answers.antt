use Rattle.std.proofs.Common.{rules}
use Rattle.makes.specs.Shifts.{shift_back}
use Rattle.makes.specs.Offsets.{held_in, turned_in, range_of, ranges, turned_is}
use Rattle.makes.proofs.offset.Offset.back.Goals as goal

pub invariant_of-result : goal.invariant_of-result
invariant_of-result c =
    let o = c.args.self.now in
    let r = ranges o.by o.tested in
    record { tested = search (rules, range_of, held_in, turned_in, r.0, r.1, r.2) }

pub returns : goal.returns
returns c = let o = c.args.self.now in record { value = turned_is o; undoes = shift_back o.by _ (turned_is o) }
