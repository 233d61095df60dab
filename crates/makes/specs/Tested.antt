-- A value that exists only where a test holds.
use Rattle.std.specs.Prelude.{◌≡◌, ℕ, Bool, true, false, Err, Result, refl}
use Rattle.refusal.specs.Told.{Told, plain}

-- what `make` gives where the test holds, which `make` may use; else refused by this number
abbrev pub tested : {A : Type 0} → ℕ → (b : Bool) → (b ≡ true → Result A Told) → Result A Told
tested number true make = make refl
tested number false make = Err (plain number)
