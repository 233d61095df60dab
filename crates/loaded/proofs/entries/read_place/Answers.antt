use Rattle.std.proofs.Common.{◌≡◌, Some, length, arith}
use Rattle.geometry.specs.Bounds.{bounds_at}
use Rattle.loaded.proofs.PlaceCut.{low_is, high_is, target_is, place_is}
use Rattle.loaded.proofs.entries.read_place.Goals as goal

pub returns-clause-place : goal.returns-clause-place
returns-clause-place c =
    let bytes = c.args.bytes.now in
    let cs = c.as_chunks.result.0.now in
    let ps = c.as_chunks-2.result.0.now in
    let long : length bytes ≡ 26 = omega arith in
    let low = low_is bytes cs ps long c.as_chunks.ensures.front c.as_chunks-2.ensures.front c.read_point.result c.read_point.ensures.easting c.read_point.ensures.northing c.read_point.ensures.level in
    let high = high_is bytes cs ps long c.as_chunks.ensures.front c.as_chunks-2.ensures.front c.read_point-2.result c.read_point-2.ensures.easting c.read_point-2.ensures.northing c.read_point-2.ensures.level in
    let target = target_is bytes cs ps long c.as_chunks.ensures.front c.as_chunks-2.ensures.front c.as_chunks.result.1.now c.from_le_bytes.result c.as_chunks.ensures.back c.from_le_bytes.ensures in
    let box : Some c.in_ok-bounds.bounds ≡ bounds_at c.read_point.result c.read_point-2.result = c.in_ok-bounds.ensures in
    place_is bytes c.read_point.result c.read_point-2.result c.in_ok-bounds.bounds c.from_le_bytes.result box low high target
