-- The two corners of a box.
use Rattle.geometry.specs.declared.bounds.Point.{Point}
use Rattle.geometry.specs.declared.bounds.Bounds.{Bounds}

abbrev pub low_ends : Bounds → Point
low_ends b = record { easting = b.easting.low; northing = b.northing.low; level = b.level.low }

abbrev pub high_ends : Bounds → Point
high_ends b = record { easting = b.easting.high; northing = b.northing.high; level = b.level.high }
