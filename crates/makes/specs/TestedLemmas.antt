-- Values that exist only where a test holds.
use Rattle.std.specs.Prelude.{◌≡◌, ℕ, Bool, true, false, Err, Result, refl}
use Rattle.std.proofs.Math.Bool.{Bool-set}
use Rattle.std.proofs.lemmas.Bool.{false≢true}
use Rattle.std.proofs.Common.{ap}
use Rattle.refusal.specs.Told.{Told, plain}
use Rattle.makes.specs.Tested.{tested}

pub tested_yes : {A : Type 0} (k : ℕ) (b : Bool) (make : b ≡ true → Result A Told) (p : b ≡ true) → tested k b make ≡ make p
tested_yes k true make p = ap make (Bool-set true true refl p)
tested_yes k false make p = absurd (false≢true p)

pub tested_no : {A : Type 0} (k : ℕ) (b : Bool) (make : b ≡ true → Result A Told) → b ≡ false → tested k b make ≡ Err (plain k)
tested_no k true make p = let q : false ≡ true = cc in absurd (false≢true q)
tested_no k false make p = refl
