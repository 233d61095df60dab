-- A point typed as three levels.
use Rattle.std.specs.Prelude.{ℕ, cond, ◌&&◌, List, Ok, Err, Result}
use Rattle.refusal.specs.Told.{Told, plain}
use Rattle.level.specs.Read.{reads}
use Rattle.geometry.specs.declared.bounds.Point.{Point}
use Rattle.line.specs.Words.{word_of, rest_of, is_word}

-- what is done with a value, where there is one
abbrev pub then : {A B : Type 0} → Result A Told → (A → Result B Told) → Result B Told
then (Ok a) next = next a
then (Err refusal) next = Err refusal

abbrev pub point_read : List ℕ → List ℕ → List ℕ → Result Point Told
point_read a b c =
    then (reads a) (λ e. then (reads b) (λ n. then (reads c) (λ l. Ok (record { easting = e; northing = n; level = l }))))

-- just three words, else 25; each the text of a level, else 27
unfoldable pub point_typed : List ℕ → Result Point Told
point_typed line =
    cond (is_word (word_of line) && (is_word (word_of (rest_of line)) && is_word (rest_of (rest_of line))))
    (point_read (word_of line) (word_of (rest_of line)) (rest_of (rest_of line)))
    (Err (plain 25))
