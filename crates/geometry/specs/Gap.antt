-- How far apart two spans are on their axis.
use Rattle.std.specs.Prelude.{ℕ, ◌+◌, ◌-◌, max, ℤ}
use borrow.Author.Differences.{up, down}
use Rattle.geometry.specs.declared.bounds.Span.{Span}

-- by how much a lies above b, and 0 where it does not
abbrev pub above : ℤ → ℤ → ℕ
above a b = (up a + down b) - (down a + up b)

-- 0 if the two share a coordinate, else the difference of the two nearer ends
abbrev pub gap : Span → Span → ℕ
gap q b = max (above b.low q.high) (above q.low b.high)
