-- Bytes cut into records of one size, and joined again.
use Rattle.std.proofs.Common.{◌≡◌, ℕ, zero, suc, ◌*◌, ◌/◌, ◌<◌, ◌≤◌, List, [], ◌∷◌, ◌++◌, map, length, take, drop, Ok, Err, IfOk, Result, sym, refl, ap, ◌∙◌, suc-mul, arith, length-drop, length-take}
use Rattle.std.proofs.Math.Nat.{mul-div_cancel}
use Rattle.std.proofs.lemmas.List.{take-append-drop, nil_from_length, take_at, drop_at}
use Rattle.std.specs.List.{AllByRecursion}
use Rattle.std.specs.Simd.{first_chunks}
use Rattle.refusal.specs.declared.hands.FileFault.{FileFault}
use Rattle.loaded.specs.declared.sections.Section.{Section}
use Rattle.loaded.specs.Reading.{read, after, records_in, rows}
use Rattle.loaded.specs.Seen.{seen, with_rest, joined, Whole}
use Rattle.loaded.proofs.Reading.{records_are}

module _ (size : ℕ) where
  pub chunks_joined : (n : ℕ) (bytes : List ℕ) → length bytes ≡ n * size → joined (first_chunks size n bytes) ≡ bytes
  chunks_joined zero bytes e = sym (nil_from_length bytes (omega arith))
  chunks_joined (suc n) bytes e =
      ap (λ (rest : List ℕ). take size bytes ++ rest) (chunks_joined n (drop size bytes) (simp length-drop (omega (arith, suc-mul n size))))
      ∙ take-append-drop size bytes

  pub chunks_each : (n : ℕ) (bytes : List ℕ) → length bytes ≡ n * size → AllByRecursion (λ (r : List ℕ). length r ≡ size) (first_chunks size n bytes)
  chunks_each zero bytes e = tt
  chunks_each (suc n) bytes e = (
    simp length-take (omega (arith, suc-mul n size)),
    chunks_each n (drop size bytes) (simp length-drop (omega (arith, suc-mul n size))),
  )

  pub chunks_long : (n : ℕ) (bytes : List ℕ) → length (first_chunks size n bytes) ≡ n
  chunks_long zero bytes = refl
  chunks_long (suc n) bytes = ap suc (chunks_long n (drop size bytes))

  pub chunks_rows : {A : Type 0} (one : List ℕ → A) (n : ℕ) (bytes : List ℕ) → map one (first_chunks size n bytes) ≡ rows one size n bytes
  chunks_rows {A = A} one zero bytes = refl
  chunks_rows {A = A} one (suc n) bytes = ap (λ (rest : List A). one (take size bytes) ∷ rest) (chunks_rows one n (drop size bytes))

  -- records joined are read again as they were
  pub joined_rows : {A : Type 0} (one : List ℕ → A) (records : List (List ℕ)) → AllByRecursion (λ (r : List ℕ). length r ≡ size) records → rows one size (length records) (joined records) ≡ map one records
  joined_rows {A = A} one [] h = refl
  joined_rows {A = A} one (r ∷ records) h =
      ap (λ (bytes : List ℕ). one bytes ∷ rows one size (length records) (drop size (r ++ joined records))) (take_at r (joined records) size h.0)
      ∙ ap (λ (bytes : List ℕ). one r ∷ rows one size (length records) bytes) (drop_at r (joined records) size h.0)
      ∙ ap (λ (all : List A). one r ∷ all) (joined_rows one records h.1)

  pub whole_rows : {A : Type 0} (one : List ℕ → A) (count : ℕ) (records : List (List ℕ)) → Whole size count records → rows one size count (joined records) ≡ map one records
  whole_rows one count records w =
      ap (λ (n : ℕ). rows one size n (joined records)) (sym w.long) ∙ joined_rows one records w.each

-- what the code cuts off the front of its bytes
module _ (size count : ℕ) (bytes front rest : List ℕ) (records : List (List ℕ)) (some : 0 < size) (there : count * size ≤ length bytes) (front_is : front ≡ take (count * size) bytes) (rest_is : rest ≡ drop (count * size) bytes) (cut : records ≡ first_chunks size (length front / size) front) where
  front_long : length front ≡ count * size
  front_long = ap length front_is ∙ simp length-take (omega arith)

  cut_is : records ≡ first_chunks size count front
  cut_is =
      cut ∙ ap (λ (n : ℕ). first_chunks size n front) (ap (λ (n : ℕ). n / size) front_long ∙ mul-div_cancel count some)

  pub cut_read : Ok (read (joined records) rest) ≡ records_in count size bytes
  cut_read =
      let whole : joined records ≡ take (count * size) bytes = ap joined cut_is ∙ chunks_joined size count front front_long ∙ front_is in
      sym (records_are count size bytes there ∙ ap (λ (r : List ℕ). Ok (read r (drop (count * size) bytes))) (sym whole) ∙ ap (λ (r : List ℕ). Ok (read (joined records) r)) (sym rest_is))

  pub cut_whole : Whole size count records
  cut_whole = rw cut_is (record { long = chunks_long size count front; each = chunks_each size count front front_long })

-- a section that was taken is read as its records
pub rows_seen : {A : Type 0} {size : ℕ} (one : List ℕ → A) (count : ℕ) (bytes : List ℕ) (r : Result (Section size) FileFault) → seen (λ (s : Section size). read (joined s.records.now) s.rest.now) r ≡ records_in count size bytes → IfOk r (λ (s : Section size). Whole size count s.records.now) → seen (with_rest (λ (s : Section size). map one s.records.now)) r ≡ after (records_in count size bytes) (λ records rest. Ok (read (rows one size count records) rest))
rows_seen {size = size} one count bytes (Ok s) e w =
    ap (λ xs. Ok (read xs s.rest.now)) (sym (whole_rows size one count s.records.now w))
    ∙ ap (λ x. after x (λ records rest. Ok (read (rows one size count records) rest))) e
rows_seen {size = size} one count bytes (Err f) e w = ap (λ x. after x (λ records rest. Ok (read (rows one size count records) rest))) e
