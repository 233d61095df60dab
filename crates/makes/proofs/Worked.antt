-- The definitions at work: strings of 17 and of 1,000 joints, and a join.
use Rattle.std.proofs.Common.{◌≡◌, ℕ, [], ◌∷◌, ℤ, pos, negsuc, refl, Option}
use Rattle.book.specs.Model.{Model, node_count, pick_limit, level_of, empty_book}
use Rattle.book.specs.declared.kind.Kind.TheVariants.{CasingTop, Perforation, Marker}
use Rattle.book.specs.declared.place.Entry.{Entry}
use Rattle.geometry.specs.Bounds.{bounds_at}
use Rattle.geometry.specs.declared.bounds.Point.{Point}
use Rattle.makes.specs.Join.{joined}
use Rattle.makes.specs.Places.{place_for}
use Rattle.makes.specs.Sixteens.{by_sixteens, place_total}
use Rattle.makes.specs.Tally.{tallied}

abbrev ground : Point
ground = record { easting = pos 0; northing = pos 0; level = pos 0 }

abbrev pub seventeen : Model
seventeen = tallied ground 17 3000

seventeen_nodes : node_count seventeen ≡ 3
unfolding by_sixteens
seventeen_nodes = refl

seventeen_places : place_total seventeen.nodes ≡ 19
unfolding by_sixteens
seventeen_places = refl

abbrev pub thousand : Model
thousand = tallied ground 1000 100

thousand_nodes : node_count thousand ≡ 68
unfolding by_sixteens
thousand_nodes = refl

thousand_places : place_total thousand.nodes ≡ 1067
unfolding by_sixteens
thousand_places = refl

abbrev at : ℕ → Point → Option Entry
at pick p = place_for pick (bounds_at p p)

abbrev below : ℤ → Point
below level = record { easting = pos 0; northing = pos 0; level = level }

-- three nodes, four picks
abbrev pub small : Model
small =
    record {
      nodes =
          record { level = 0; places = at 0 (below (negsuc 34)) ∷ at 1 (below (negsuc 3999)) ∷ [] }
          ∷ record { level = 0; places = at 2 (below (negsuc 34)) ∷ at 3 (below (negsuc 2099)) ∷ [] }
          ∷ record {
            level = 1;
            places = place_for 0 (bounds_at (below (negsuc 3999)) (below (negsuc 34))) ∷ place_for 1 (bounds_at (below (negsuc 2099)) (below (negsuc 34))) ∷ [];
          }
          ∷ [];
      kinds = CasingTop ∷ Marker ∷ CasingTop ∷ Perforation ∷ [];
    }

joined_nodes : node_count (joined small seventeen) ≡ 7
unfolding joined by_sixteens
joined_nodes = refl

joined_picks : pick_limit (joined small seventeen) ≡ 21
unfolding joined by_sixteens
joined_picks = refl

joined_root : level_of (joined small seventeen) 6 ≡ 2
unfolding joined by_sixteens
joined_root = refl

-- the roots of a leaf and of a higher tree do not fit
not_joined : joined small (tallied ground 16 3000) ≡ empty_book
unfolding joined by_sixteens
not_joined = refl
