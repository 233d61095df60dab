use Rattle.std.proofs.Common.{◌≡◌, ◌+◌, ◌≤◌, length, drop, vec_items, vec_len, vec_capacity}
use Rattle.exported.specs.Input.{boxes_of}
use Rattle.exported.proofs.Boxes.{onto}
use Rattle.exported.proofs.input.query_boxes.Given as goal

abbrev pub invariant-loop-point : goal.invariant-loop-point
invariant-loop-point l =
    (onto (vec_items l.boxes) (boxes_of (drop l.point-index l.points)) ≡ boxes_of l.points)
    × (vec_len l.boxes + length l.points ≤ vec_capacity l.boxes + l.point-index)
