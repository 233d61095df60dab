-- Book W: two leaves of two picks each under one root, and the file that holds it.
use Rattle.std.specs.Prelude.{ℕ, List, [], ◌∷◌, ◌++◌, ℤ, pos, negsuc, Option}
use Rattle.geometry.specs.Bounds.{bounds_at}
use Rattle.geometry.specs.declared.bounds.Point.{Point}
use Rattle.book.specs.Model.{Model}
use Rattle.book.specs.declared.kind.Kind.TheVariants.{CasingTop, Perforation, Marker}
use Rattle.book.specs.declared.place.Entry.{Entry}
use Rattle.loaded.specs.Decode.{place_with}

abbrev spot : ℤ → ℤ → ℤ → Point
spot easting northing level = record { easting = easting; northing = northing; level = level }

-- the box from one point to another, naming a pick or a node
abbrev entry : Point → Point → ℕ → Option Entry
entry low high target = place_with (bounds_at low high) target

abbrev pub book_w : Model
book_w = record {
  nodes =
      record {
        level = 0;
        places = entry (spot (pos 0) (pos 0) (negsuc 34)) (spot (pos 0) (pos 0) (negsuc 34)) 0
            ∷ entry (spot (pos 0) (pos 0) (negsuc 3999)) (spot (pos 0) (pos 0) (negsuc 3999)) 1 ∷ [];
      }
      ∷ record {
        level = 0;
        places = entry (spot (pos 300) (pos 400) (negsuc 34)) (spot (pos 300) (pos 400) (negsuc 34)) 2
            ∷ entry (spot (pos 300) (pos 400) (negsuc 2099)) (spot (pos 300) (pos 400) (negsuc 1999)) 3 ∷ [];
      }
      ∷ record {
        level = 1;
        places = entry (spot (pos 0) (pos 0) (negsuc 3999)) (spot (pos 0) (pos 0) (negsuc 34)) 0
            ∷ entry (spot (pos 300) (pos 400) (negsuc 2099)) (spot (pos 300) (pos 400) (negsuc 34)) 1 ∷ [];
      }
      ∷ [];
  kinds = CasingTop ∷ Marker ∷ CasingTop ∷ Perforation ∷ [];
}

abbrev pub file_w : List ℕ
file_w =
    (3 ∷ 0 ∷ [])
    ++ (0 ∷ 2 ∷ 0 ∷ 0 ∷ [])
    ++ (0 ∷ 2 ∷ 2 ∷ 0 ∷ [])
    ++ (1 ∷ 2 ∷ 4 ∷ 0 ∷ [])
    ++ (6 ∷ 0 ∷ [])
    ++ (0 ∷ 0 ∷ 0 ∷ 0 ∷ 0 ∷ 0 ∷ 0 ∷ 0 ∷ 221 ∷ 255 ∷ 255 ∷ 255 ∷ 0 ∷ 0 ∷ 0 ∷ 0 ∷ 0 ∷ 0 ∷ 0 ∷ 0 ∷ 221 ∷ 255 ∷ 255 ∷ 255 ∷ 0 ∷ 0 ∷ [])
    ++ (0 ∷ 0 ∷ 0 ∷ 0 ∷ 0 ∷ 0 ∷ 0 ∷ 0 ∷ 96 ∷ 240 ∷ 255 ∷ 255 ∷ 0 ∷ 0 ∷ 0 ∷ 0 ∷ 0 ∷ 0 ∷ 0 ∷ 0 ∷ 96 ∷ 240 ∷ 255 ∷ 255 ∷ 1 ∷ 0 ∷ [])
    ++ (44 ∷ 1 ∷ 0 ∷ 0 ∷ 144 ∷ 1 ∷ 0 ∷ 0 ∷ 221 ∷ 255 ∷ 255 ∷ 255 ∷ 44 ∷ 1 ∷ 0 ∷ 0 ∷ 144 ∷ 1 ∷ 0 ∷ 0 ∷ 221 ∷ 255 ∷ 255 ∷ 255 ∷ 2 ∷ 0 ∷ [])
    ++ (44 ∷ 1 ∷ 0 ∷ 0 ∷ 144 ∷ 1 ∷ 0 ∷ 0 ∷ 204 ∷ 247 ∷ 255 ∷ 255 ∷ 44 ∷ 1 ∷ 0 ∷ 0 ∷ 144 ∷ 1 ∷ 0 ∷ 0 ∷ 48 ∷ 248 ∷ 255 ∷ 255 ∷ 3 ∷ 0 ∷ [])
    ++ (0 ∷ 0 ∷ 0 ∷ 0 ∷ 0 ∷ 0 ∷ 0 ∷ 0 ∷ 96 ∷ 240 ∷ 255 ∷ 255 ∷ 0 ∷ 0 ∷ 0 ∷ 0 ∷ 0 ∷ 0 ∷ 0 ∷ 0 ∷ 221 ∷ 255 ∷ 255 ∷ 255 ∷ 0 ∷ 0 ∷ [])
    ++ (44 ∷ 1 ∷ 0 ∷ 0 ∷ 144 ∷ 1 ∷ 0 ∷ 0 ∷ 204 ∷ 247 ∷ 255 ∷ 255 ∷ 44 ∷ 1 ∷ 0 ∷ 0 ∷ 144 ∷ 1 ∷ 0 ∷ 0 ∷ 221 ∷ 255 ∷ 255 ∷ 255 ∷ 1 ∷ 0 ∷ [])
    ++ (4 ∷ 0 ∷ [])
    ++ (1 ∷ 4 ∷ 1 ∷ 3 ∷ [])
