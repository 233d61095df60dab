-- What a copy through the file form answers, and what it leaves.
use Rattle.std.specs.Prelude.{ℕ, cond, List, length, Ok, Err, Result, nat_lt}
use Rattle.refusal.specs.Told.{Told, plain}
use Rattle.book.specs.Model.{Model}
use Rattle.book.specs.Spoilt.{first_spoilt}
use Rattle.file.specs.WriteOut.{unless_spoilt, write_out_answer, left_by}
use Rattle.loaded.specs.Decode.{decode}

abbrev pub copied_or : Result ℕ Told → Model → Model → Model
copied_or (Ok n) copied held = copied
copied_or (Err t) copied held = held

-- the book itself is held after its copy, or else what was held before
abbrev pub book_copied : Model → ℕ → Model → Model
book_copied m room held = copied_or (write_out_answer m room) m held

abbrev pub of_file : Result Model Told → ℕ → ℕ → Result ℕ Told
of_file (Err t) size room = Err t
of_file (Ok m) size room = unless_spoilt (first_spoilt m) (cond (nat_lt room size) (Err (plain 21)) (Ok size))

-- the file's own length, unless the file is refused, a place is spoilt, or the room is too small
abbrev pub file_copy_answer : List ℕ → ℕ → Result ℕ Told
file_copy_answer bytes room = of_file (decode bytes) (length bytes) room

-- the file's own bytes and then the bytes after them as they were, or all bytes as they were
abbrev pub file_copy_leaves : List ℕ → List ℕ → List ℕ
file_copy_leaves bytes before = left_by (file_copy_answer bytes (length before)) bytes before
