-- Two accepted books, joined, are accepted.
use Rattle.std.specs.Prelude.{◌≡◌, ℕ, ◌+◌, ◌≤◌, Ok, Result}
use Rattle.refusal.specs.declared.hands.TreeFault.{TreeFault}
use Rattle.book.specs.Model.{Model, BookShape}
use Rattle.book.specs.Totals.{total_places}
use Rattle.book_check.specs.Accepted.{Accepted}
use Rattle.book_check.specs.Names.{picks_named}
use Rattle.makes.specs.Join.{joinable, joined}

-- the new root adds two places
abbrev pub JoinsAccepted : Type 0
JoinsAccepted =
    (l r : Model) → BookShape l → BookShape r → Accepted l → Accepted r → joinable l r ≡ Ok tt →
    total_places l + total_places r + 2 ≤ 2048 → Accepted (joined l r)

-- what the check answers of m, the join of two such books: the number of picks named, and no fault
abbrev pub NeverRefused : Model → Model → Model → Result ℕ TreeFault → Type 0
NeverRefused m l r answer =
    m ≡ joined l r → Accepted l → Accepted r → joinable l r ≡ Ok tt → total_places l + total_places r + 2 ≤ 2048 →
    answer ≡ Ok (picks_named m)
