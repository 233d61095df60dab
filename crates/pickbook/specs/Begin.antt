-- What the program makes of its file: the answer, the first line and the first state.
use Rattle.std.specs.Prelude.{ℕ, List, Ok, Err, Result}
use Rattle.refusal.specs.Told.{Told}
use Rattle.refusal.specs.Line.{refused_line}
use Rattle.book.specs.Model.{Model}
use Rattle.book_check.specs.Checked.{checked}
use Rattle.console.specs.Say.{accepted_line}
use Rattle.console.specs.declared.state.State.{State}
use Rattle.console.specs.declared.state.State.TheVariants.{NoBook, Ready}

-- a file that does not load is refused as such, and the book that was held is not checked in its place
abbrev pub judged : Result Model Told → Result ℕ Told
judged (Ok book) = checked book
judged (Err refusal) = Err refusal

abbrev pub first_line : Result ℕ Told → List ℕ
first_line (Ok picks) = accepted_line picks
first_line (Err refusal) = refused_line refusal

abbrev pub first_state : Result ℕ Told → State
first_state (Ok picks) = Ready
first_state (Err refusal) = NoBook
