-- Where a line is cut at its first blank, the two parts are its word and its rest.
use Rattle.std.proofs.Common.{◌≡◌, ℕ, suc, ◌+◌, ◌<◌, false, eqb, List, [], ◌∷◌, ◌++◌, length, get_or, take, drop, sym, refl, ap, ◌∙◌, arith}
use Rattle.std.proofs.lemmas.List.{take-append-drop, drop_more, get_or-take, length-take}
use Rattle.std.proofs.lemmas.Bool.Decides.{nat_tests}
use Rattle.line.specs.Words.{blank, word_of, rest_of}

-- none of the first n bytes is a blank
abbrev pub NoBlank : List ℕ → ℕ → Type 0
NoBlank bs n = (k : ℕ) → k < n → get_or bs k 0 ≡ blank → ⊥

tail : (b : ℕ) (bs : List ℕ) (n : ℕ) → NoBlank (b ∷ bs) (suc n) → NoBlank bs n
tail b bs n none k h e = none (suc k) (omega arith) e

no_blank : (b : ℕ) (bs : List ℕ) (n : ℕ) → NoBlank (b ∷ bs) (suc n) → eqb b blank ≡ false
no_blank b bs n none = let ne : b ≡ blank → ⊥ = λ e. none 0 (omega arith) e in grind (arith, nat_tests)

whole : (bs : List ℕ) → NoBlank bs (length bs) → (bs ≡ word_of bs) × ([] ≡ rest_of bs)
whole [] none = (refl, refl)
whole (b ∷ bs) none =
    let p = whole bs (tail b bs (length bs) none) in
    (rw (no_blank b bs (length bs) none) (ap (λ t. b ∷ t) p.0), rw (no_blank b bs (length bs) none) p.1)

pub word_whole : (bs : List ℕ) → NoBlank bs (length bs) → bs ≡ word_of bs
word_whole bs none = (whole bs none).0

pub rest_none : (bs : List ℕ) → NoBlank bs (length bs) → [] ≡ rest_of bs
rest_none bs none = (whole bs none).1

parts : (xs ys : List ℕ) → NoBlank xs (length xs) → (xs ≡ word_of (xs ++ (blank ∷ ys))) × (ys ≡ rest_of (xs ++ (blank ∷ ys)))
parts [] ys none = (refl, refl)
parts (b ∷ xs) ys none =
    let p = parts xs ys (tail b xs (length xs) none) in
    (rw (no_blank b xs (length xs) none) (ap (λ t. b ∷ t) p.0), rw (no_blank b xs (length xs) none) p.1)

cut : (bs : List ℕ) (i : ℕ) → i < length bs → get_or bs i 0 ≡ blank → bs ≡ take i bs ++ (blank ∷ drop (i + 1) bs)
cut bs i h e = sym (take-append-drop i bs) ∙ ap (λ t. take i bs ++ t) (drop_more bs i 0 h ∙ ap (λ x. x ∷ drop (i + 1) bs) e)

front : (bs : List ℕ) (i : ℕ) → NoBlank bs i → NoBlank (take i bs) (length (take i bs))
front bs i none k h e = let l : k < i = omega (arith, length-take i bs) in none k l (sym (get_or-take i bs k 0 l) ∙ e)

pub word_cut : (bs : List ℕ) (i : ℕ) → i < length bs → get_or bs i 0 ≡ blank → NoBlank bs i → take i bs ≡ word_of bs
word_cut bs i h e none = (parts (take i bs) (drop (i + 1) bs) (front bs i none)).0 ∙ ap word_of (sym (cut bs i h e))

pub rest_cut : (bs : List ℕ) (i : ℕ) → i < length bs → get_or bs i 0 ≡ blank → NoBlank bs i → drop (i + 1) bs ≡ rest_of bs
rest_cut bs i h e none = (parts (take i bs) (drop (i + 1) bs) (front bs i none)).1 ∙ ap rest_of (sym (cut bs i h e))
