use Rattle.geometry.proofs.Boxes.{same_point}
use Rattle.makes.specs.Collars.{down_joint, east_is, collar_is}
use Rattle.makes.specs.Offsets.{ranges}
use Rattle.makes.proofs.tally.Joints.collar.Goals as goal

pub returns : goal.returns
returns c =
    let top = c.args.top.now in
    let r = ranges top c.requires.top in
    same_point _ _ (east_is top.easting r.0) (east_is top.northing r.1)
    (collar_is top c.args.self.now.length c.args.joint c.requires.top (down_joint c.args.self.now c.args.joint c.requires.joint))
