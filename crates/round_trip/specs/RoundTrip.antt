-- The file form and the reading of it undo each other.
use Rattle.std.specs.Prelude.{◌≡◌, ℕ, ◌<◌, ◌≤◌, List, None, Ok}
use Rattle.std.specs.List.{AllByRecursion}
use Rattle.book.specs.Model.{Model, BookShape}
use Rattle.book.specs.Spoilt.{first_spoilt}
use Rattle.book.specs.Totals.{total_places}
use Rattle.file.specs.Encode.{encode}
use Rattle.loaded.specs.Decode.{decode}

-- what is written out loads with the same meaning
abbrev pub WrittenLoads : Type 0
WrittenLoads = (m : Model) → BookShape m → total_places m ≤ 2048 → first_spoilt m ≡ None → decode (encode m) ≡ Ok m

-- a file that loads without a spoilt place is what its book is written out as
abbrev pub LoadedWrites : Type 0
LoadedWrites = (bytes : List ℕ) (m : Model) → AllByRecursion (λ b. b < 256) bytes → decode bytes ≡ Ok m → first_spoilt m ≡ None → encode m ≡ bytes
