-- A small book of four picks and three nodes: what the definitions make of it. And one that is broken.
use Rattle.std.proofs.Common.{◌≡◌, ℕ, zero, suc, List, [], ◌∷◌, ℤ, pos, negsuc, Some, None, Ok, Err, Option, refl}
use Rattle.refusal.specs.Told.{at_node}
use Rattle.geometry.specs.Bounds.{span_at, bounds_at}
use Rattle.geometry.specs.Contains.{contains}
use Rattle.geometry.specs.Distance.{euclidean, box_distance}
use Rattle.geometry.specs.declared.bounds.Point.{Point}
use Rattle.geometry.specs.declared.bounds.Bounds.{Bounds}
use Rattle.book.specs.declared.kind.Kind.TheVariants.{CasingTop, Perforation, Marker}
use Rattle.book.specs.declared.place.Entry.{Entry}
use Rattle.book.specs.Model.{Model, BookShape}
use Rattle.book_check.specs.Below.{count_below}
use Rattle.book_check.specs.Names.{names, named_before, is_named, picks_named}
use Rattle.book_check.specs.Sound.{sticks_out, sound_target}
use Rattle.book_check.specs.Checked.{place_fault, node_fault, tree_fault, checked}
use Rattle.book_check.specs.Accepted.{Accepted}
use Rattle.book_check.proofs.Meaning.{accepted_exactly}
use Rattle.search.specs.declared.turn.Hand.TheVariants.{Day, Evening}
use Rattle.search.specs.declared.turn.Call.TheVariants.{Next, Report}
use Rattle.search.specs.declared.turn.Turn.{Turn}
use Rattle.search.specs.Answer.{none, told, counts}
use Rattle.browse.specs.declared.answer.Row.{Row}
use Rattle.browse.specs.Tree.{Far}
use Rattle.browse.specs.Broken.{can_open}
use Rattle.browse.specs.Browse.{Reply, opening, next_of, replies_from}
use Rattle.browse.specs.Law.{ranking, node_distances, unlimited, Browsed, Monotone, FitsWord}
use Rattle.browse.proofs.Lawful.{browsed}

-- -n
abbrev minus : ℕ → ℤ
minus zero = pos 0
minus (suc n) = negsuc n

abbrev point : ℕ → ℕ → ℕ → Point
point e n depth = record { easting = pos e; northing = pos n; level = minus depth }

abbrev or_spoilt : ℕ → Option Bounds → Option Entry
or_spoilt target (Some b) = Some (record { bounds = b; target = target })
or_spoilt target None = None

abbrev place : ℕ → Point → Point → Option Entry
place target low high = or_spoilt target (bounds_at low high)

abbrev small : Model
small =
    record {
      nodes =
          record { level = 0; places = place 0 (point 0 0 35) (point 0 0 35) ∷ place 1 (point 0 0 4000) (point 0 0 4000) ∷ [] }
          ∷ record { level = 0; places = place 2 (point 300 400 35) (point 300 400 35) ∷ place 3 (point 300 400 2100) (point 300 400 2000) ∷ [] }
          ∷ record { level = 1; places = place 0 (point 0 0 4000) (point 0 0 35) ∷ place 1 (point 300 400 2100) (point 300 400 35) ∷ [] }
          ∷ [];
      kinds = CasingTop ∷ Marker ∷ CasingTop ∷ Perforation ∷ [];
    }

abbrev far_from : Option Bounds → Far
far_from (Some q) b = euclidean q b
far_from None b = 0

-- from the ground
abbrev far : Far
far = far_from (bounds_at (point 0 0 0) (point 0 0 0))

abbrev row : ℕ → ℕ → ℕ → Row
row pick distance depth = record { pick = pick; distance = distance; top = minus depth }

abbrev day : ℕ → Turn
day limit = record { hand = Day; call = Next limit }

abbrev evening : ℕ → Turn
evening limit = record { hand = Evening; call = Next limit }

abbrev report : Turn
report = record { hand = Evening; call = Report }

abbrev replies : Model → List Turn → List Reply
replies m = replies_from m far (opening m)

-- the check accepts it, so the law speaks of it
checks : checked small ≡ Ok 4
unfolding span_at contains checked tree_fault node_fault place_fault sound_target sticks_out names named_before is_named picks_named count_below
checks = refl

accepted : Accepted small
accepted = ((accepted_exactly small 4).0 checks).0

law : BookShape small → Monotone far → FitsWord far → (turns : List Turn) → Browsed small far turns (replies small turns)
law shape mono fits = browsed small far shape mono fits accepted

ranked : ranking small far ≡ row 0 1225 35 ∷ row 2 251225 35 ∷ row 3 4250000 2000 ∷ row 1 16000000 4000 ∷ []
unfolding span_at box_distance
ranked = refl

distances : node_distances small far ≡ 0 ∷ 1225 ∷ 251225 ∷ []
unfolding span_at box_distance
distances = refl

-- the limit just below the nearest pick, and at it
short : replies small (day 1224 ∷ []) ≡ Ok (none 1) ∷ []
unfolding span_at box_distance can_open next_of
short = refl

reaching : replies small (day 1225 ∷ []) ≡ Ok (told (row 0 1225 35) 2) ∷ []
unfolding span_at box_distance can_open next_of
reaching = refl

-- two hands, limits that rise and fall
shared : replies small (report ∷ day 1224 ∷ evening 2000 ∷ day 251224 ∷ evening 251225 ∷ day unlimited ∷ report ∷ evening 0 ∷ day unlimited ∷ day unlimited ∷ [])
    ≡ Ok (counts 0 0)
    ∷ Ok (none 1)
    ∷ Ok (told (row 0 1225 35) 2)
    ∷ Ok (none 2)
    ∷ Ok (told (row 2 251225 35) 3)
    ∷ Ok (told (row 3 4250000 2000) 3)
    ∷ Ok (counts 3 3)
    ∷ Ok (none 3)
    ∷ Ok (told (row 1 16000000 4000) 3)
    ∷ Ok (none 3)
    ∷ []
unfolding span_at box_distance can_open next_of
shared = refl

-- pick 0 lies outside the box of its node, and nearer: the node cannot be opened, however often it is asked
abbrev broken : Model
broken =
    record {
      nodes =
          record { level = 0; places = place 0 (point 0 0 35) (point 0 0 35) ∷ [] }
          ∷ record { level = 1; places = place 0 (point 0 0 4000) (point 0 0 40) ∷ [] }
          ∷ [];
      kinds = Marker ∷ [];
    }

refused : replies broken (day 1599 ∷ day 1600 ∷ evening unlimited ∷ report ∷ [])
    ≡ Ok (none 1) ∷ Err (at_node 20 0) ∷ Err (at_node 20 0) ∷ Ok (counts 0 1) ∷ []
unfolding span_at box_distance can_open next_of
refused = refl
