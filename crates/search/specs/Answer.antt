-- What a turn is answered. R is what is told.
use Rattle.std.specs.Prelude.{ℕ, List, [], ◌∷◌, Some, None, Option}

-- The last number is the count of nodes opened; `counts` has the count of rows told before it.
pub data Answer (R : Type 0) : Type 0 where
  none : ℕ → Answer R
  told : R → ℕ → Answer R
  counts : ℕ → ℕ → Answer R

-- the count of nodes opened that it carries
abbrev pub opened_in : {R : Type 0} → Answer R → ℕ
opened_in (none o) = o
opened_in (told r o) = o
opened_in (counts n o) = o

-- the row that it tells, if it does
abbrev pub row_in : {R : Type 0} → Answer R → Option R
row_in (none o) = None
row_in (told r o) = Some r
row_in (counts n o) = None

-- the rows told, in order
abbrev pub rows_in : {R : Type 0} → List (Answer R) → List R
rows_in [] = []
rows_in (none o ∷ qs) = rows_in qs
rows_in (told r o ∷ qs) = r ∷ rows_in qs
rows_in (counts n o ∷ qs) = rows_in qs

-- the same answer, its row put another way
abbrev pub reworded : {R Q : Type 0} → (R → Q) → Answer R → Answer Q
reworded f (none o) = none o
reworded f (told r o) = told (f r) o
reworded f (counts n o) = counts n o
