-- What the readers of a count and of records give where their tests pass.
use Rattle.std.proofs.Common.{◌≡◌, ℕ, ◌*◌, ◌≤◌, Bool, true, leb, length, take, drop, List, Ok, Err, Result, ◌∙◌}
use Rattle.std.proofs.lemmas.Bool.{cond-true, and_from, le-leb}
use Rattle.refusal.specs.Told.{Told, plain}
use Rattle.loaded.specs.Reading.{short_at, read, tested, count_in, records_in}

passed : {A : Type 0} (k : ℕ) (b : Bool) (next : Result A Told) → b ≡ true → tested k b next ≡ next
passed k b next h = cond-true b next (Err (plain k)) h

pub count_is : (least most : ℕ) (bytes : List ℕ) → 2 ≤ length bytes → least ≤ short_at bytes 0 → short_at bytes 0 ≤ most → count_in least most bytes ≡ Ok (read (short_at bytes 0) (drop 2 bytes))
unfolding count_in
count_is least most bytes h l m =
    passed 1 _ _ (le-leb 2 (length bytes) h)
    ∙ passed 2 _ _ (and_from (leb least (short_at bytes 0)) (leb (short_at bytes 0) most) (le-leb least (short_at bytes 0) l) (le-leb (short_at bytes 0) most m))

pub records_are : (count size : ℕ) (bytes : List ℕ) → count * size ≤ length bytes → records_in count size bytes ≡ Ok (read (take (count * size) bytes) (drop (count * size) bytes))
unfolding records_in
records_are count size bytes h = passed 1 _ _ (le-leb (count * size) (length bytes) h)
