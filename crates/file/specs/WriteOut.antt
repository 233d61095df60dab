-- What write-out answers, and what it leaves in the caller's bytes.
use Rattle.std.specs.Prelude.{ℕ, cond, List, ◌++◌, length, drop, Some, None, Ok, Err, Option, Result, nat_lt}
use Rattle.refusal.specs.Told.{Told, plain, at_place}
use Rattle.book.specs.Model.{Model}
use Rattle.book.specs.Spoilt.{first_spoilt}
use Rattle.book.specs.Totals.{total_places}
use Rattle.file.specs.Encode.{encode}

-- 14 at a spoilt place
abbrev pub unless_spoilt : Option (ℕ × ℕ) → Result ℕ Told → Result ℕ Told
unless_spoilt (Some spot) answer = Err (at_place 14 spot.0 spot.1)
unless_spoilt None answer = answer

-- the length, unless there are too many places, one is spoilt, or the room is too small
abbrev pub write_out_answer : Model → ℕ → Result ℕ Told
write_out_answer m room =
    cond (nat_lt 2048 (total_places m)) (Err (plain 12))
    (unless_spoilt (first_spoilt m)
    (cond (nat_lt room (length (encode m))) (Err (plain 21))
    (Ok (length (encode m)))))

-- what was written and the bytes after it, or the bytes as they were
abbrev pub left_by : Result ℕ Told → List ℕ → List ℕ → List ℕ
left_by (Ok n) written before = written ++ drop n before
left_by (Err t) written before = before

-- the file form and then the bytes after it as they were, or all bytes as they were
abbrev pub write_out_leaves : Model → List ℕ → List ℕ
write_out_leaves m before = left_by (write_out_answer m (length before)) (encode m) before
