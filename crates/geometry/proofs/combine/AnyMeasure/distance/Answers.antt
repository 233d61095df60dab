use Rattle.std.proofs.Common.{◌≡◌}
use Rattle.geometry.specs.Distance.{box_distance}
use Rattle.geometry.specs.Gaps.{least_of}
use Rattle.geometry.proofs.combine.AnyMeasure.distance.Goals as goal

pub returns : goal.returns
unfolding box_distance
returns g c =
    let way = g.C.Combine.way c.args.self.now in
    let value : c.combine.result ≡ box_distance way c.args.query.now c.args.bounds.now = cc in
    record { value = value; least = least_of way (g.met.C.Combine.grows c.args.self.now) c.args.query.now c.args.bounds.now _ value }
