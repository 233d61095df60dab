use Rattle.std.proofs.Common.{◌≡◌, rules}
use Rattle.file.specs.Encode.{le32}
use Rattle.file.specs.Pen.{wrote}
use Rattle.file.proofs.Pens.{wrote_three}
use Rattle.file.proofs.pen.Pen.put_point.Goals as goal

pub returns : goal.returns
returns c =
    let p = c.args.point in
    let first : c.put_i32.new.self ≡ wrote c.args.self.now (le32 p.easting) = search rules in
    let second : c.put_i32-2.new.self ≡ wrote c.put_i32.new.self (le32 p.northing) = search rules in
    let third : c.put_i32-3.new.self ≡ wrote c.put_i32-2.new.self (le32 p.level) = search rules in
    wrote_three c.args.self.now (le32 p.easting) (le32 p.northing) (le32 p.level) c.requires first second third
