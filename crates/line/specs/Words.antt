-- Words are separated by single blanks.
use Rattle.std.specs.Prelude.{ℕ, Bool, false, cond, not, ◌&&◌, ◌||◌, List, [], ◌∷◌, length, ◌==◌, nat_lt}

abbrev pub blank : ℕ
blank = 32

-- what stands before the first blank: all of a line that has none
abbrev pub word_of : List ℕ → List ℕ
word_of [] = []
word_of (b ∷ bs) = cond (b == blank) [] (b ∷ word_of bs)

-- what stands after the first blank: nothing of a line that has none
abbrev pub rest_of : List ℕ → List ℕ
rest_of [] = []
rest_of (b ∷ bs) = cond (b == blank) bs (rest_of bs)

abbrev pub has_blank : List ℕ → Bool
has_blank [] = false
has_blank (b ∷ bs) = b == blank || has_blank bs

-- some bytes, and no blank among them
abbrev pub is_word : List ℕ → Bool
is_word text = nat_lt 0 (length text) && not (has_blank text)
