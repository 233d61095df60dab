-- Numbers marked by one bit each in words of 64 bits.
use Rattle.std.specs.Prelude.{ℕ, ◌/◌, ◌%◌, ◌^◌, ◌<◌, Bool, not, List, Option, ◌==◌, slice_index}
use Rattle.refusal.specs.Told.{Told, at_node}
use Rattle.book_check.specs.Below.{first_below}
use Rattle.book_check.specs.Sound.{when}
use Rattle.book_check.specs.declared.target.Target.{Target}
use Rattle.book_check.specs.declared.target.Target.TheVariants.{Pick, Child}
use Rattle.book_check.specs.declared.named.Named.{Named}

-- whether the bit of k is set
unfoldable pub marked : List ℕ → ℕ → Bool
marked ws k = slice_index ws (k / 64) / 2 ^ (k % 64) % 2 == 1

-- whether the bit of the target is set
abbrev pub bit_of : Named → Target → Bool
bit_of a (Pick p) = marked a.picks p
bit_of a (Child k) = marked a.nodes k

-- the targets that have a bit
abbrev pub HasBit : Target → Type 0
HasBit (Pick p) = p < 2048
HasBit (Child k) = k < 512

-- 19 at the lowest node below the root whose bit is not set
abbrev pub first_unnamed : Named → ℕ → Option Told
first_unnamed a root = first_below (λ k. when (not (bit_of a (Child k))) (at_node 19 k)) root
