-- What whoever is called answers to a list of turns, one after another.
use Rattle.std.specs.Prelude.{List, [], ◌∷◌}

-- S is where it stands, T a turn, A an answer: one turn gives the answer and where it stands then.
module _ {S T A : Type 0} (turned : S → T → A × S) where
  abbrev pub answers_from : S → List T → List A
  answers_from s [] = []
  answers_from s (u ∷ us) = (turned s u).0 ∷ answers_from (turned s u).1 us

  abbrev pub standing_after : S → List T → S
  standing_after s [] = s
  standing_after s (u ∷ us) = standing_after (turned s u).1 us
