-- A pen, and bytes put over others from a position on.
use Rattle.std.specs.Prelude.{ℕ, ◌+◌, ◌≤◌, List, ◌++◌, length, take, drop}
use Rattle.file.specs.declared.pen.Pen.{Pen}

-- xs with ys over it from `at` on
abbrev pub placed : List ℕ → ℕ → List ℕ → List ℕ
placed xs at ys = take at xs ++ (ys ++ drop (at + length ys) xs)

-- ys ends within the caller's bytes
abbrev pub HasRoom : Pen → List ℕ → Type 0
HasRoom pen ys = pen.at + length ys ≤ length pen.page.now

-- the pen after ys was put where it stood
abbrev pub wrote : Pen → List ℕ → Pen
wrote pen ys = record pen { at = pen.at + length ys; page = record pen.page { now = placed pen.page.now pen.at ys } }
