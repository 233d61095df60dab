-- What the copies come to, by what their two halves promise.
use Rattle.std.proofs.Common.{◌≡◌, ℕ, Bool, true, false, cond, ltb, List, ◌++◌, length, take, drop, Some, None, Ok, Err, Option, Result, sym, refl, ap, ◌∙◌}
use Rattle.std.proofs.lemmas.List.{take_at}
use Rattle.std.proofs.lemmas.Bool.{cond-false, le-ltb, ltb-false}
use Rattle.refusal.specs.Told.{Told, plain}
use Rattle.geometry.proofs.Boxes.{by_option}
use Rattle.book.specs.Model.{Model, BookShape}
use Rattle.book.specs.Spoilt.{first_spoilt}
use Rattle.book.specs.Totals.{total_places}
use Rattle.file.specs.Encode.{encode}
use Rattle.file.specs.WriteOut.{unless_spoilt, write_out_answer, left_by, write_out_leaves}
use Rattle.loaded.specs.Decode.{decode}
use Rattle.round_trip.specs.Copy.{of_file, file_copy_answer, file_copy_leaves}
use Rattle.round_trip.proofs.Parts.{err_ok, ok_inj}
use Rattle.round_trip.proofs.WrittenLoads.{written_loads}
use Rattle.round_trip.proofs.LoadedWrites.{Kept}

tests_passed : (many : Bool) (spoilt : Option (ℕ × ℕ)) (short : Bool) (size n : ℕ) → Ok n ≡ cond many (Err (plain 12)) (unless_spoilt spoilt (cond short (Err (plain 21)) (Ok size))) → (many ≡ false) × (spoilt ≡ None) × (n ≡ size)
tests_passed true spoilt short size n e = err_ok (sym e)
tests_passed false (Some spot) short size n e = err_ok (sym e)
tests_passed false None true size n e = err_ok (sym e)
tests_passed false None false size n e = (refl, refl, ok_inj e)

module _ (m : Model) (xs : List ℕ) (n : ℕ) (answer : Ok n ≡ write_out_answer m (length xs)) where
  -- what was written out is read as the book
  pub reads_back : BookShape m → (ys : List ℕ) → ys ≡ write_out_leaves m xs → decode (take n ys) ≡ Ok m
  reads_back shape ys leaves =
      let passed = tests_passed (ltb 2048 (total_places m)) (first_spoilt m) (ltb (length xs) (length (encode m))) (length (encode m)) n answer in
      let is : ys ≡ encode m ++ drop n xs = leaves ∙ ap (λ a. left_by a (encode m) xs) (sym answer) in
      let cut : take n ys ≡ encode m = ap (take n) is ∙ take_at (encode m) (drop n xs) n (sym passed.2) in
      ap decode cut ∙ written_loads m shape (ltb-false 2048 (total_places m) passed.0) passed.1

module _ (bytes : List ℕ) (m : Model) (e : decode bytes ≡ Ok m) (k : Kept bytes m) where
  abbrev rest : List ℕ → ℕ → Result ℕ Told
  rest file room = cond (ltb room (length file)) (Err (plain 21)) (Ok (length file))

  few_enough : (room : ℕ) → write_out_answer m room ≡ unless_spoilt (first_spoilt m) (rest (encode m) room)
  few_enough room = cond-false (ltb 2048 (total_places m)) _ _ (le-ltb 2048 (total_places m) k.few)

  pub same_answer : (room : ℕ) → write_out_answer m room ≡ file_copy_answer bytes room
  same_answer room =
      few_enough room
      ∙ by_option (first_spoilt m) (λ none. ap (λ file. unless_spoilt (first_spoilt m) (rest file room)) (k.same none))
      (λ spot some. ap (λ o. unless_spoilt o (rest (encode m) room)) some ∙ ap (λ o. unless_spoilt o (rest bytes room)) (sym some))
      ∙ ap (λ d. of_file d (length bytes) room) (sym e)

  pub same_leaves : (before : List ℕ) → write_out_leaves m before ≡ file_copy_leaves bytes before
  same_leaves before =
      by_option (first_spoilt m) (λ none. ap (λ file. left_by (write_out_answer m (length before)) file before) (k.same none))
      (λ spot some.
      let stops = few_enough (length before) ∙ ap (λ o. unless_spoilt o (rest (encode m) (length before))) some in
      ap (λ a. left_by a (encode m) before) stops ∙ ap (λ a. left_by a bytes before) (sym stops))
      ∙ ap (λ a. left_by a bytes before) (same_answer (length before))
