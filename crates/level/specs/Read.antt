-- Reading a level: the texts that writing can give, and no others.
use Rattle.std.specs.Prelude.{◌≡◌, ℕ, ◌+◌, ◌-◌, ◌*◌, true, cond, ◌&&◌, List, [], ◌∷◌, ℤ, pos, neg_ℤ, Ok, Err, Result, ◌==◌, slice_index}
use Rattle.std.specs.Char.{is_ascii_digit}
use Rattle.std.specs.Str.{bytes_eq}
use Rattle.refusal.specs.Told.{Told, plain}
use Rattle.level.specs.Range.{is_level}
use Rattle.level.specs.Write.{level_text}

-- no level has a longer text
abbrev pub longest_text : ℕ
longest_text = 10

-- the number read so far, with one more byte: a digit counts, anything else is passed over
abbrev pub with_byte : ℕ → ℕ → ℕ
with_byte sum byte = cond (is_ascii_digit byte) (sum * 10 + (byte - 48)) sum

-- the number that the digits of a text spell
abbrev pub digits_spell : ℕ → List ℕ → ℕ
digits_spell sum [] = sum
digits_spell sum (byte ∷ text) = digits_spell (with_byte sum byte) text

-- the same with the minus: the one level that a text can be the text of
abbrev pub spelt : List ℕ → ℤ
spelt text = cond (slice_index text 0 == 45) (neg_ℤ (pos (digits_spell 0 text))) (pos (digits_spell 0 text))

-- what reading answers: that level if the text is its text, else 27
unfoldable pub reads : List ℕ → Result ℤ Told
reads text =
    cond (is_level (spelt text) && bytes_eq text (level_text (spelt text)))
    (Ok (spelt text))
    (Err (plain 27))

-- ---- the law of reading
-- x is a level, and this is its text
abbrev pub TextOf : List ℕ → ℤ → Type 0
TextOf text x = (is_level x ≡ true) × (text ≡ level_text x)

-- `Ok x` is answered exactly for the text of x, and 27 exactly where no level has that text
pub record ReadingLaw (text : List ℕ) (answer : Result ℤ Told) : Type 0 where
  pub takes : (x : ℤ) → TextOf text x → answer ≡ Ok x
  pub only_takes : (x : ℤ) → answer ≡ Ok x → TextOf text x
  pub refuses : ((x : ℤ) → TextOf text x → ⊥) → answer ≡ Err (plain 27)
  pub only_refuses : (refusal : Told) → answer ≡ Err refusal → (x : ℤ) → TextOf text x → ⊥

-- what is written reads back, with its sign
abbrev pub RoundTrip : Type 0
RoundTrip = (x : ℤ) → is_level x ≡ true → reads (level_text x) ≡ Ok x

abbrev pub NoTwoShareAText : Type 0
NoTwoShareAText = (x y : ℤ) → is_level x ≡ true → is_level y ≡ true → level_text x ≡ level_text y → x ≡ y
