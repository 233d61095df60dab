-- What a load answers and which book is held after it, by what the file is read as.
use Rattle.std.specs.Prelude.{Ok, Err, Result}
use Rattle.refusal.specs.Told.{Told}
use Rattle.book.specs.Model.{Model}

abbrev pub load_answer : Result Model Told → Result (Unit {0}) Told
load_answer (Ok new) = Ok tt
load_answer (Err t) = Err t

-- the new book, or the one that was held
abbrev pub held_after : Result Model Told → Model → Model
held_after (Ok new) held = new
held_after (Err t) held = held
