-- Which offsets there are.
use Rattle.std.specs.Prelude.{pos, neg_ℤ, Ok, Result}
use Rattle.refusal.specs.Told.{Told}
use Rattle.geometry.specs.Bounds.{point_in_range}
use Rattle.geometry.specs.declared.bounds.Point.{Point}
use Rattle.makes.specs.Tested.{tested}
use Rattle.makes.specs.declared.offset.Offset.{Offset}

-- the offset by these amounts, refused by 7 where one is too great
unfoldable pub offset_of : Point → Result Offset Told
offset_of by = tested 7 (point_in_range by) (λ t. Ok (record { by = by; tested = t }))

abbrev pub no_move : Point
no_move = record { easting = pos 0; northing = pos 0; level = pos 0 }

abbrev pub opposite : Point → Point
opposite by = record { easting = neg_ℤ by.easting; northing = neg_ℤ by.northing; level = neg_ℤ by.level }
