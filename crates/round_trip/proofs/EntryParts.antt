-- Entry records.
use Rattle.std.proofs.Common.{◌≡◌, ℕ, ◌+◌, ◌*◌, ◌/◌, ◌%◌, ◌^◌, ◌<◌, ◌≤◌, List, [], ◌∷◌, ◌++◌, map, length, get_or, take, drop, sym, refl, ap, ◌∙◌, arith, length-drop, w32, to_z, Some, None, Option}
use Rattle.std.proofs.ByRecursion.{All-drop}
use Rattle.std.proofs.lemmas.List.{get_or-drop, drop-drop, take_all}
use Rattle.std.proofs.lemmas.Int.{of_z-to_z}
use Rattle.std.specs.List.{flat_map, AllByRecursion}
use Rattle.geometry.proofs.Boxes.{by_option, bounds_at_lem, box_ends}
use Rattle.geometry.specs.Bounds.{bounds_at}
use Rattle.geometry.specs.declared.bounds.Point.{Point}
use Rattle.book.specs.declared.place.Entry.{Entry}
use Rattle.geometry.specs.Ends.{low_ends, high_ends}
use Rattle.file.specs.Encode.{bytes_of, le16, le32, twos_complement, point_bytes, entry_record, place_record}
use Rattle.file.proofs.Back.{short_back, long_back, low_fits, high_fits}
use Rattle.file.proofs.Bytes.{twos_complement_is}
use Rattle.file.proofs.Lengths.{length_entry_record}
use Rattle.loaded.specs.Decode.{place_with, point_from, place_from}
use Rattle.loaded.specs.Reading.{short_at, long_at}
use Rattle.round_trip.proofs.Flat.{IsFilled, Fits}
use Rattle.round_trip.proofs.Parts.{Bytes, bytes_parts, take_add}

filled : (e : Entry) (low high : Point) (target : ℕ) → low ≡ low_ends e.bounds → high ≡ high_ends e.bounds → target ≡ e.target → place_with (bounds_at low high) target ≡ Some e
filled e low high target is_low is-high is-target =
    (λ i. place_with (bounds_at (is_low i) (is-high i)) (is-target i))
    ∙ ap (λ b. place_with b e.target) (bounds_at_lem e.bounds)

place_read : (e : Entry) → e.target < 65536 → place_from (entry_record e) ≡ Some e
unfolding bytes_of
place_read e small =
    let b = e.bounds in
    filled e _ _ _
    (λ i. record { easting = long_back b.easting.low [] (low_fits b.easting) i; northing = long_back b.northing.low [] (low_fits b.northing) i; level = long_back b.level.low [] (low_fits b.level) i })
    (λ i. record { easting = long_back b.easting.high [] (high_fits b.easting) i; northing = long_back b.northing.high [] (high_fits b.northing) i; level = long_back b.level.high [] (high_fits b.level) i })
    (short_back e.target [] small)

pub places_read : (ps : List (Option Entry)) → AllByRecursion IsFilled ps → AllByRecursion Fits ps → map place_from (map place_record ps) ≡ ps
places_read [] f t = refl
places_read (Some e ∷ ps) f t = let rest = places_read ps f.1 t.1 in λ i. place_read e t.0 i ∷ rest i
places_read (None ∷ ps) f t = absurd f.0

pub places_sized : (ps : List (Option Entry)) → AllByRecursion IsFilled ps → AllByRecursion (λ (r : List ℕ). length r ≡ 26) (map place_record ps)
places_sized [] f = tt
places_sized (Some e ∷ ps) f = (length_entry_record e, places_sized ps f.1)
places_sized (None ∷ ps) f = absurd f.0

-- the number that these bytes give, the lowest first
abbrev number_in : List ℕ → ℕ
number_in [] = 0
number_in (b ∷ bs) = b + 256 * number_in bs

-- a number's bytes are those it was read from
bytes_again : (bs : List ℕ) → Bytes bs → bytes_of (length bs) (number_in bs) ≡ bs
unfolding bytes_of
bytes_again [] small = refl
bytes_again (b ∷ bs) small =
    let low : (b + 256 * number_in bs) % 256 ≡ b = omega (arith, small.0) in
    let high : (b + 256 * number_in bs) / 256 ≡ number_in bs = omega (arith, small.0) in
    let rest = ap (bytes_of (length bs)) high ∙ bytes_again bs small.1 in
    λ i. low i ∷ rest i

long_written : (a b c d : ℕ) → Bytes (a ∷ b ∷ c ∷ d ∷ []) → le32 (to_z w32 (a + b * 256 + c * 65536 + d * 16777216)) ≡ a ∷ b ∷ c ∷ d ∷ []
long_written a b c d small =
    let n = a + b * 256 + c * 65536 + d * 16777216 in
    let below : n < 2 ^ 32 = omega (arith, small.0, small.1.0, small.1.1.0, small.1.1.1.0) in
    let is : twos_complement (to_z w32 n) ≡ n = twos_complement_is (to_z w32 n) ∙ of_z-to_z w32 n below in
    let same : n ≡ number_in (a ∷ b ∷ c ∷ d ∷ []) = omega arith in
    ap (bytes_of 4) (is ∙ same) ∙ bytes_again (a ∷ b ∷ c ∷ d ∷ []) small

short_written : (a b : ℕ) → Bytes (a ∷ b ∷ []) → le16 (a + b * 256) ≡ a ∷ b ∷ []
short_written a b small =
    let same : a + b * 256 ≡ number_in (a ∷ b ∷ []) = omega arith in
    ap (bytes_of 2) same ∙ bytes_again (a ∷ b ∷ []) small

long_first : (bytes : List ℕ) → 4 ≤ length bytes → Bytes bytes → le32 (long_at bytes 0) ≡ take 4 bytes
long_first [] h small = absurd (omega arith)
long_first (a ∷ []) h small = absurd (omega arith)
long_first (a ∷ b ∷ []) h small = absurd (omega arith)
long_first (a ∷ b ∷ c ∷ []) h small = absurd (omega arith)
long_first (a ∷ b ∷ c ∷ d ∷ bytes) h small = long_written a b c d (small.0, (small.1.0, (small.1.1.0, (small.1.1.1.0, tt))))

short_first : (bytes : List ℕ) → 2 ≤ length bytes → Bytes bytes → le16 (short_at bytes 0) ≡ take 2 bytes
unfolding bytes_of
short_first [] h small = absurd (omega arith)
short_first (a ∷ []) h small = absurd (omega arith)
short_first (a ∷ b ∷ bytes) h small = short_written a b (small.0, (small.1.0, tt))

module _ (bytes : List ℕ) (small : Bytes bytes) where
  byte_on : (i j : ℕ) → get_or bytes (i + j) 0 ≡ get_or (drop i bytes) j 0
  byte_on i j = sym (get_or-drop i bytes j 0)

  long_at_lem : (i : ℕ) → i + 4 ≤ length bytes → le32 (long_at bytes i) ≡ take 4 (drop i bytes)
  long_at_lem i h =
      let zero-on : get_or bytes i 0 ≡ get_or (drop i bytes) 0 0 = let e : i ≡ i + 0 = omega arith in ap (λ k. get_or bytes k 0) e ∙ byte_on i 0 in
      (λ j. le32 (to_z w32 (zero-on j + byte_on i 1 j * 256 + byte_on i 2 j * 65536 + byte_on i 3 j * 16777216)))
      ∙ long_first (drop i bytes) (simp length-drop (omega arith)) (All-drop (λ b. b < 256) i bytes small)

  short_at_lem : (i : ℕ) → i + 2 ≤ length bytes → le16 (short_at bytes i) ≡ take 2 (drop i bytes)
  short_at_lem i h =
      let zero-on : get_or bytes i 0 ≡ get_or (drop i bytes) 0 0 = let e : i ≡ i + 0 = omega arith in ap (λ k. get_or bytes k 0) e ∙ byte_on i 0 in
      (λ j. le16 (zero-on j + byte_on i 1 j * 256))
      ∙ short_first (drop i bytes) (simp length-drop (omega arith)) (All-drop (λ b. b < 256) i bytes small)

  -- the next piece behind one
  onto : (i a b : ℕ) → take a (drop i bytes) ++ take b (drop (i + a) bytes) ≡ take (a + b) (drop i bytes)
  onto i a b = ap (λ xs. take a (drop i bytes) ++ take b xs) (sym (drop-drop a i bytes)) ∙ sym (take_add a b (drop i bytes))

  point_at : (i : ℕ) → i + 12 ≤ length bytes → point_bytes (point_from bytes i) ≡ take 12 (drop i bytes)
  point_at i h =
      let same : i + 4 + 4 ≡ i + 8 = omega arith in
      (λ j. long_at_lem i (omega arith) j ++ (long_at_lem (i + 4) (omega arith) j ++ long_at_lem (i + 8) (omega arith) j))
      ∙ ap (λ k. take 4 (drop i bytes) ++ (take 4 (drop (i + 4) bytes) ++ take 4 (drop k bytes))) (sym same)
      ∙ ap (λ xs. take 4 (drop i bytes) ++ xs) (onto (i + 4) 4 4)
      ∙ onto i 4 8

  pieces : length bytes ≡ 26 → point_bytes (point_from bytes 0) ++ (point_bytes (point_from bytes 12) ++ le16 (short_at bytes 24)) ≡ bytes
  pieces h =
      (λ j. point_at 0 (omega arith) j ++ (point_at 12 (omega arith) j ++ short_at_lem 24 (omega arith) j))
      ∙ ap (λ xs. take 12 bytes ++ xs) (onto 12 12 2)
      ∙ onto 0 12 14
      ∙ take_all 26 bytes (omega arith)

  place_written : length bytes ≡ 26 → IsFilled (place_from bytes) → place_record (place_from bytes) ≡ bytes
  place_written h is =
      by_option (bounds_at (point_from bytes 0) (point_from bytes 12))
      (λ none. absurd (rw none at is))
      (λ box some.
      let ends = box_ends (point_from bytes 0) (point_from bytes 12) box some in
      ap (λ b. place_record (place_with b (short_at bytes 24))) some
      ∙ (λ j. point_bytes (ends.0 j) ++ (point_bytes (ends.1 j) ++ le16 (short_at bytes 24)))
      ∙ pieces h)

pub places_written : (records : List (List ℕ)) → AllByRecursion (λ (r : List ℕ). length r ≡ 26) records → Bytes (flat_map (λ r. r) records) → AllByRecursion IsFilled (map place_from records) → map place_record (map place_from records) ≡ records
places_written [] sized small f = refl
places_written (r ∷ records) sized small f =
    let parts = bytes_parts r (flat_map (λ r. r) records) small in
    let here = place_written r parts.0 sized.0 f.0 in
    let rest = places_written records sized.1 parts.1 f.1 in
    λ i. here i ∷ rest i
