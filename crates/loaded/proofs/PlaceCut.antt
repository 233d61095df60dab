-- The place of an entry record, whose bytes are cut into coordinates and these into points.
use Rattle.std.proofs.Common.{◌≡◌, ℕ, ◌+◌, ◌/◌, ◌*◌, ◌<◌, ℤ, List, [], ◌∷◌, length, get_or, take, drop, Some, Option, ap, ◌∙◌, refl, arith, get_or-take, get_or-drop}
use Rattle.std.proofs.lemmas.List.{drop-drop}
use Rattle.std.specs.Simd.{first_chunks}
use Rattle.geometry.specs.Bounds.{bounds_at}
use Rattle.geometry.specs.declared.bounds.Point.{Point}
use Rattle.geometry.specs.declared.bounds.Bounds.{Bounds}
use Rattle.loaded.specs.Reading.{byte_at, short_at, long_at}
use Rattle.loaded.specs.Decode.{place_with, point_from, place_from}

byte_cut : (bytes : List ℕ) (at i : ℕ) → i < 4 → byte_at (take 4 (drop at bytes)) i ≡ byte_at bytes (at + i)
byte_cut bytes at i h = get_or-take 4 (drop at bytes) i 0 h ∙ get_or-drop at bytes i 0

long_cut : (bytes : List ℕ) (at : ℕ) → long_at (take 4 (drop at bytes)) 0 ≡ long_at bytes at
long_cut bytes at =
    let none : at + 0 ≡ at = omega arith in
    rw (byte_cut bytes at 0 (omega arith), byte_cut bytes at 1 (omega arith), byte_cut bytes at 2 (omega arith), byte_cut bytes at 3 (omega arith), none)

abbrev number : List (List (List ℕ)) → ℕ → ℕ → List ℕ
number points i k = get_or (get_or points i []) k []

abbrev spot : ℤ → ℤ → ℤ → Point
spot easting northing level = record { easting = easting; northing = northing; level = level }

point_is : (bytes : List ℕ) (at : ℕ) (p : Point) → p.easting ≡ long_at bytes at → p.northing ≡ long_at bytes (at + 4) → p.level ≡ long_at bytes (at + 8) → p ≡ point_from bytes at
point_is bytes at p x y z =
    ap (λ (n : ℤ). spot n p.northing p.level) x
    ∙ ap (λ (n : ℤ). spot (long_at bytes at) n p.level) y
    ∙ ap (λ (n : ℤ). spot (long_at bytes at) (long_at bytes (at + 4)) n) z

-- the six coordinates, where each begins
abbrev six : List ℕ → List (List ℕ)
six bytes =
    take 4 (drop 0 bytes)
    ∷ take 4 (drop 4 bytes)
    ∷ take 4 (drop 8 bytes)
    ∷ take 4 (drop 12 bytes)
    ∷ take 4 (drop 16 bytes)
    ∷ take 4 (drop 20 bytes)
    ∷ []

six_chunks : (bytes : List ℕ) → first_chunks 4 6 bytes ≡ six bytes
six_chunks bytes = simp drop-drop

module _ (bytes : List ℕ) (coordinates : List (List ℕ)) (points : List (List (List ℕ))) (long : length bytes ≡ 26) (cut : coordinates ≡ first_chunks 4 (length bytes / 4) bytes) (grouped : points ≡ first_chunks 3 (length coordinates / 3) coordinates) where
  points_are : points ≡ first_chunks 3 2 (six bytes)
  points_are =
      let all : coordinates ≡ six bytes = cut ∙ ap (λ (n : ℕ). first_chunks 4 (n / 4) bytes) long ∙ six_chunks bytes in
      grouped ∙ ap (λ (cs : List (List ℕ)). first_chunks 3 (length cs / 3) cs) all

  at_number : (i k : ℕ) → long_at (number points i k) 0 ≡ long_at (number (first_chunks 3 2 (six bytes)) i k) 0
  at_number i k = ap (λ (ps : List (List (List ℕ))). long_at (number ps i k) 0) points_are

  pub low_is : (p : Point) → p.easting ≡ long_at (number points 0 0) 0 → p.northing ≡ long_at (number points 0 1) 0 → p.level ≡ long_at (number points 0 2) 0 → p ≡ point_from bytes 0
  low_is p a b c =
      point_is bytes 0 p (a ∙ at_number 0 0 ∙ long_cut bytes 0) (b ∙ at_number 0 1 ∙ long_cut bytes 4) (c ∙ at_number 0 2 ∙ long_cut bytes 8)

  pub high_is : (p : Point) → p.easting ≡ long_at (number points 1 0) 0 → p.northing ≡ long_at (number points 1 1) 0 → p.level ≡ long_at (number points 1 2) 0 → p ≡ point_from bytes 12
  high_is p a b c =
      point_is bytes 12 p (a ∙ at_number 1 0 ∙ long_cut bytes 12) (b ∙ at_number 1 1 ∙ long_cut bytes 16) (c ∙ at_number 1 2 ∙ long_cut bytes 20)

  pub target_is : (rest : List ℕ) (target : ℕ) → rest ≡ drop (length bytes / 4 * 4) bytes → target ≡ short_at rest 0 → target ≡ short_at bytes 24
  target_is rest target r t =
      let all : rest ≡ drop 24 bytes = r ∙ ap (λ (n : ℕ). drop (n / 4 * 4) bytes) long in
      t ∙ ap (λ (bs : List ℕ). short_at bs 0) all ∙ rw (get_or-drop 24 bytes 0 0, get_or-drop 24 bytes 1 0) refl

pub place_is : (bytes : List ℕ) (low high : Point) (box : Bounds) (target : ℕ) → Some box ≡ bounds_at low high → low ≡ point_from bytes 0 → high ≡ point_from bytes 12 → target ≡ short_at bytes 24 → Some (record { bounds = box; target = target }) ≡ place_from bytes
place_is bytes low high box target b l h t =
    ap (λ (o : Option Bounds). place_with o target) b
    ∙ ap (λ (p : Point). place_with (bounds_at p high) target) l
    ∙ ap (λ (p : Point). place_with (bounds_at (point_from bytes 0) p) target) h
    ∙ ap (λ (n : ℕ). place_with (bounds_at (point_from bytes 0) (point_from bytes 12)) n) t
