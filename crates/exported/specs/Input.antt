-- What the bytes and the queries of a call are.
use Rattle.std.specs.Prelude.{ℕ, List, [], ◌∷◌, Ok, Err, Result}
use Rattle.refusal.specs.Told.{Told}
use Rattle.geometry.specs.Bounds.{bounds_of}
use Rattle.geometry.specs.declared.bounds.Bounds.{Bounds}
use Rattle.geometry.specs.declared.bounds.Point.{Point}
use Rattle.book.specs.Model.{Model}
use Rattle.book_check.specs.Checked.{checked}
use Rattle.loaded.specs.Decode.{decode}
use Rattle.exported.specs.declared.crossing.QueryPoint.{QueryPoint}

-- the next step, unless this one refuses
abbrev pub and_then : {A B : Type 0} → Result A Told → (A → Result B Told) → Result B Told
and_then (Ok a) next = next a
and_then (Err t) next = Err t

-- how many picks the book in the file names, if the file is lawful and the check accepts the book
abbrev pub picks_in : List ℕ → Result ℕ Told
picks_in file = and_then (decode file) checked

-- that book
abbrev pub book_in : List ℕ → Result Model Told
book_in file = and_then (decode file) (λ m. and_then (checked m) (λ _. Ok m))

abbrev pub point_of : QueryPoint → Point
point_of p = record { easting = p.easting; northing = p.northing; level = p.level }

-- the box of each query, which is one point; refused if one of them is out of range
abbrev pub boxes_of : List QueryPoint → Result (List Bounds) Told
boxes_of [] = Ok []
boxes_of (p ∷ ps) = and_then (bounds_of (point_of p) (point_of p)) (λ b. and_then (boxes_of ps) (λ bs. Ok (b ∷ bs)))

-- what a call asks for: a book and the boxes of its queries
abbrev pub asked_for : List ℕ → List QueryPoint → Result (Model × List Bounds) Told
asked_for file points = and_then (book_in file) (λ m. and_then (boxes_of points) (λ queries. Ok (m, queries)))
