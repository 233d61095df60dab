-- Which rows are told, and where they stand.
use Rattle.std.specs.Prelude.{◌≡◌, ℕ, ◌⊎◌, List, ◌++◌, map, length, take, drop, Ok, Err, Result}
use Rattle.std.specs.List.{flat_map}
use Rattle.refusal.specs.Told.{Told}
use Rattle.geometry.specs.declared.bounds.Bounds.{Bounds}
use Rattle.book.specs.Model.{Model}
use Rattle.browse.specs.declared.answer.Row.{Row}
use Rattle.browse.specs.Law.{ranking}
use Rattle.exported.specs.declared.crossing.QueryPoint.{QueryPoint}
use Rattle.exported.specs.declared.crossing.ToldRow.{ToldRow}
use Rattle.exported.specs.declared.crossing.Outcome.{Outcome}
use Rattle.exported.specs.Input.{and_then, asked_for}
use Rattle.exported.specs.Outcome.{outcome, no_memory}

-- how far a box is from a query box
abbrev pub Distance : Type 0
Distance = Bounds → Bounds → ℕ

-- of each query, one after another, the first so many rows of the full ranking
abbrev pub first_rows : Distance → Model → ℕ → List Bounds → List Row
first_rows far m each queries = flat_map (λ q. take each (ranking m (far q))) queries

-- the rows that a call tells, as many as there is room for
abbrev pub rows_for : Distance → List ℕ → List QueryPoint → ℕ → ℕ → Result (List Row) Told
rows_for far file points each room =
    and_then (asked_for file points) (λ asked. Ok (take room (first_rows far asked.0 each asked.1)))

abbrev pub told_row : Row → ToldRow
told_row r = record { distance = r.distance; top = r.top; pick = r.pick }

-- rows written from the front on; what stands after them stays
abbrev pub laid : List Row → List ToldRow → List ToldRow
laid rows before = map told_row rows ++ drop (length rows) before

-- a refusal writes nothing
abbrev pub laid_over : Result (List Row) Told → List ToldRow → List ToldRow
laid_over (Ok rows) before = laid rows before
laid_over (Err t) before = before

abbrev pub counted : Result (List Row) Told → Result ℕ Told
counted (Ok rows) = Ok (length rows)
counted (Err t) = Err t

-- the call answers how many rows, and they stand in the slice; or there is no memory, and the slice stays
abbrev pub Tells : Result (List Row) Told → Outcome → List ToldRow → List ToldRow → Type 0
Tells wanted r before after =
    ((r ≡ outcome (counted wanted)) × (after ≡ laid_over wanted before)) ⊎ ((r ≡ no_memory) × (after ≡ before))
