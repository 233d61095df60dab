-- What is read of a text, and that a level's own text reads as that level.
use Rattle.std.proofs.Common.{◌≡◌, ℕ, zero, suc, ◌+◌, ◌-◌, ◌*◌, ◌/◌, ◌%◌, ◌^◌, ◌<◌, ◌≤◌, Bool, true, false, cond, not, ◌&&◌, eqb, List, [], ◌∷◌, ◌++◌, length, get_or, take, map, Some, Option, ℤ, pos, negsuc, neg_ℤ, Ok, Err, decimal, Decides, Result, sym, refl, ap, ◌∙◌, subst, pow-suc, arith, lit<, w32, SFits, length-append}
use native.Mathlib.Nat.{pow-le-pow_right}
use Rattle.std.specs.Char.{is_ascii_digit}
use Rattle.std.specs.List.{fold, filter}
use Rattle.std.proofs.lemmas.List.Filters.{length-filter_both}
use denote.Param.Members.{Mut}
use Rattle.std.specs.Fn.{Called}
use Rattle.std.specs.Iterator.{Yields, FoldsItems}
use Rattle.std.proofs.lemmas.Fn.{fold_over}
use Rattle.std.proofs.lemmas.List.Sums.{fold_push}
use Rattle.std.proofs.lemmas.Iterator.{YieldsList}
use Rattle.std.proofs.lemmas.Iterator.Consumers.{YieldsList-turn, YieldsList-so_far}
use Rattle.std.specs.Str.{bytes_eq}
use Rattle.std.proofs.lemmas.Bool.Decides.{nat_tests, Decides-and}
use Rattle.std.proofs.lemmas.Slice.Eq.{bytes_eq-Decides}
use Rattle.std.proofs.lemmas.List.{get_or_append_left, take_all}
use Rattle.std.proofs.lemmas.Fmt.{decimal_by_steps, decimal_digit, decimal_nonempty, first_decimal, length-decimal-le}
use Rattle.std.specs.Prelude.{None, OkIff, MatchOption}
use Rattle.std.specs.Bool.{then_some}
use Rattle.std.specs.Option.{ok_or}
use Rattle.std.specs.Result.{result_ok}
use Rattle.refusal.specs.declared.hands.TypingFault.TheVariants.{NotALevel}
use Rattle.refusal.specs.Told.{Told, plain, answered, typing_told}
use Rattle.level.specs.Range.{is_level}
use Rattle.level.specs.Write.{hundredths_text, level_text}
use Rattle.level.specs.Read.{longest_text, with_byte, digits_spell, spelt, reads, TextOf, ReadingLaw, RoundTrip, NoTwoShareAText}

-- ---- the digits of a text
spell_append : (sum : ℕ) (xs ys : List ℕ) → digits_spell sum (xs ++ ys) ≡ digits_spell (digits_spell sum xs) ys
spell_append sum [] ys = refl
spell_append sum (x ∷ xs) ys = spell_append (with_byte sum x) xs ys

with_digit : (sum d : ℕ) → d < 10 → with_byte sum (48 + d) ≡ sum * 10 + d
with_digit sum d h = grind (arith, nat_tests)

spell_decimal : (n : ℕ) → n < 2 ^ 64 → digits_spell 0 (decimal n) ≡ n
spell_decimal =
    decimal_by_steps (λ n ds. digits_spell 0 ds ≡ n)
    (λ n h. with_digit 0 n h ∙ (let e : 0 * 10 + n ≡ n = omega arith in e))
    (λ n ds h e.
    spell_append 0 ds ((48 + n % 10) ∷ [])
    ∙ with_digit (digits_spell 0 ds) (n % 10) (omega arith)
    ∙ (let k : digits_spell 0 ds * 10 + n % 10 ≡ n = omega arith in k))

spell_hundredths : (n : ℕ) → n < 2 ^ 64 → digits_spell 0 (hundredths_text n) ≡ n
spell_hundredths n h =
    spell_append 0 (decimal (n / 100)) (46 ∷ (48 + n / 10 % 10) ∷ (48 + n % 10) ∷ [])
    ∙ ap (λ sum. digits_spell sum ((48 + n / 10 % 10) ∷ (48 + n % 10) ∷ [])) (spell_decimal (n / 100) (omega arith))
    ∙ ap (λ sum. digits_spell sum ((48 + n % 10) ∷ [])) (with_digit (n / 100) (n / 10 % 10) (omega arith))
    ∙ with_digit (n / 100 * 10 + n / 10 % 10) (n % 10) (omega arith)
    ∙ (let e : (n / 100 * 10 + n / 10 % 10) * 10 + n % 10 ≡ n = omega arith in e)

-- ---- the fold that reads them
abbrev pub more : ℕ → ℕ → ℕ
more sum byte = sum * 10 + (byte - 48)

pub fold_spells : (sum : ℕ) (text : List ℕ) → fold more sum (filter is_ascii_digit text) ≡ digits_spell sum text
fold_spells sum [] = refl
fold_spells sum (byte ∷ text) =
    elim (is_ascii_digit byte) as (λ t. fold more sum (cond t (byte ∷ filter is_ascii_digit text) (filter is_ascii_digit text)) ≡ digits_spell (cond t (sum * 10 + (byte - 48)) sum) text)
    [ true ↦ fold_spells (more sum byte) text | false ↦ fold_spells sum text ]

digits_few : (text : List ℕ) → length (filter is_ascii_digit text) ≤ length text
digits_few text = omega (arith, length-filter_both is_ascii_digit (λ x. not (is_ascii_digit x)) (λ x. refl) text)

digit_or_rest : (byte d : ℕ) (rest : List ℕ) (k : ℕ) (t : Bool) → t ≡ is_ascii_digit byte → ((j : ℕ) → j < length rest → is_ascii_digit (get_or rest j d) ≡ true) → k < length (cond t (byte ∷ rest) rest) → is_ascii_digit (get_or (cond t (byte ∷ rest) rest) k d) ≡ true
digit_or_rest byte d rest zero true e all h = sym e
digit_or_rest byte d rest (suc k) true e all h = all k (omega arith)
digit_or_rest byte d rest k false e all h = all k h

is_digit : (text : List ℕ) (d k : ℕ) → k < length (filter is_ascii_digit text) → is_ascii_digit (get_or (filter is_ascii_digit text) k d) ≡ true
is_digit [] d k h = absurd (omega arith)
is_digit (byte ∷ text) d k h = digit_or_rest byte d (filter is_ascii_digit text) k (is_ascii_digit byte) refl (is_digit text d) h

ten_more : (m k : ℕ) → m * 10 ^ suc k ≡ (m * 10) * 10 ^ k
ten_more m k = let p : 10 ^ suc k ≡ 10 ^ k * 10 = pow-suc 10 k in ap (λ x. m * x) p ∙ (let q : m * (10 ^ k * 10) ≡ (m * 10) * 10 ^ k = grind arith in q)

one_more : (byte : ℕ) (rest : List ℕ) (sum m k : ℕ) (t : Bool) → t ≡ is_ascii_digit byte → ((s n j : ℕ) → s < n → fold more s (take j rest) < n * 10 ^ j) → sum < m → fold more sum (take (suc k) (cond t (byte ∷ rest) rest)) < m * 10 ^ suc k
one_more byte rest sum m k true e small h =
    let d : byte - 48 < 10 = grind (arith, nat_tests) in
    let s : fold more (more sum byte) (take k rest) < (m * 10) * 10 ^ k = small (more sum byte) (m * 10) k (omega arith) in
    omega (arith, ten_more m k)
one_more byte rest sum m k false e small h = small sum m (suc k) h

fold_none : (sum k : ℕ) → fold more sum (take k []) ≡ sum
fold_none sum zero = refl
fold_none sum (suc k) = refl

fold_small : (text : List ℕ) (sum m k : ℕ) → sum < m → fold more sum (take k (filter is_ascii_digit text)) < m * 10 ^ k
fold_small text sum m zero h = omega arith
fold_small [] sum m (suc k) h = let s = fold_small [] sum (m * 10) k (omega arith) in omega (arith, s, ten_more m k, fold_none sum k)
fold_small (byte ∷ text) sum m (suc k) h = one_more byte (filter is_ascii_digit text) sum m k (is_ascii_digit byte) refl (fold_small text) h

pub spelt_small : (text : List ℕ) → length text ≤ longest_text → digits_spell 0 text < 10 ^ longest_text
spelt_small text short =
    let all = filter is_ascii_digit text in
    let b : fold more 0 (take (length all) all) < 1 * 10 ^ length all = fold_small text 0 1 (length all) (lit< tt) in
    let p : 10 ^ length all ≤ 10 ^ longest_text = pow-le-pow_right {n = 10} (lit< tt) {i = length all} {j = longest_text} (omega (arith, digits_few text)) in
    let e : fold more 0 (take (length all) all) ≡ digits_spell 0 text = ap (fold more 0) (take_all (length all) all (omega arith)) ∙ fold_spells 0 text in
    omega arith

-- where each call adds a digit to what was read, all of them spell this number
pub folded : {S A F : Type 0} {steps : S → Option A → S → Type 0} {g : Mut F (ℕ × (A × Unit {0})) ℕ} {s : S} {f : F} {v : A → ℕ} (r : ℕ) (all : List ℕ) → FoldsItems steps g s f 0 r → YieldsList steps v s all → ((sum : ℕ) (x : A) (b : ℕ) (q : F) → Called g f (sum, (x, tt)) b q → (b ≡ more sum (v x)) × (q ≡ f)) → r ≡ fold more 0 all
folded {steps = steps} {g = g} {s = s} {f = f} {v = v} r all ran road acts =
    fold_over steps v g (λ ys a. a ≡ fold more 0 ys) f
    (λ ys a x b q j k. let w = acts a x b q k in (w.0 ∙ ap (λ sum. more sum (v x)) j ∙ sym (fold_push more 0 ys (v x)), w.1))
    s all 0 r road.runs refl ran

-- so far the digits xs were read, and x comes next
pub next_digit : {S A : Type 0} {steps : S → Option A → S → Type 0} {v : A → ℕ} {s : S} (xs : List A) (t u : S) (x : A) (sum : ℕ) (text : List ℕ) → length text ≤ longest_text → sum ≡ fold more 0 (map v xs) → Yields steps s xs t → steps t (Some x) u → YieldsList steps v s (filter is_ascii_digit text) → (48 ≤ v x) × (v x ≤ 57) × (sum < 10 ^ 9)
next_digit {v = v} xs t u x sum text short e y turn road =
    let m = YieldsList-turn road xs t y (Some x) u x refl turn in
    let f = YieldsList-so_far road xs t y in
    let d : is_ascii_digit (v x) ≡ true = ap is_ascii_digit m.1 ∙ is_digit text (v x) (length xs) m.0 in
    let p : 10 ^ length xs ≤ 10 ^ 9 = pow-le-pow_right {n = 10} (lit< tt) {i = length xs} {j = 9} (omega (arith, digits_few text)) in
    let b : fold more 0 (take (length xs) (filter is_ascii_digit text)) < 1 * 10 ^ length xs = fold_small text 0 1 (length xs) (lit< tt) in
    let c : sum ≡ fold more 0 (take (length xs) (filter is_ascii_digit text)) = e ∙ ap (fold more 0) f in
    (grind (arith, nat_tests), grind (arith, nat_tests), omega arith)

-- ---- a level's own text
level_small : (n : ℕ) → is_level (pos n) ≡ true → n < 100_000_000
level_small n h = grind (arith, nat_tests)

level_small_below : (n : ℕ) → is_level (negsuc n) ≡ true → suc n < 100_000_000
level_small_below n h = grind (arith, nat_tests)

first_digit : (n : ℕ) → n < 2 ^ 64 → 47 < get_or (decimal n) 0 0
first_digit zero h = omega (arith, ap (λ t. get_or t 0 0) (decimal_digit 0 (lit< tt)))
first_digit (suc n) h = omega (arith, first_decimal (suc n) (omega arith) h)

no_minus : (n : ℕ) → n < 100_000_000 → eqb (get_or (hundredths_text n) 0 0) 45 ≡ false
no_minus n h =
    let d = first_digit (n / 100) (omega arith) in
    let e = get_or_append_left (decimal (n / 100)) (46 ∷ (48 + n / 10 % 10) ∷ (48 + n % 10) ∷ []) 0 0 (decimal_nonempty (n / 100) (omega arith)) in
    grind (arith, nat_tests)

pub spelt_text : (x : ℤ) → is_level x ≡ true → spelt (level_text x) ≡ x
spelt_text (pos n) h =
    let k = level_small n h in
    ap (λ b. cond b (neg_ℤ (pos (digits_spell 0 (hundredths_text n)))) (pos (digits_spell 0 (hundredths_text n)))) (no_minus n k)
    ∙ ap pos (spell_hundredths n (omega arith))
spelt_text (negsuc n) h =
    let k = level_small_below n h in
    ap (λ m. neg_ℤ (pos m)) (spell_hundredths (suc n) (omega arith))

length_small : (n : ℕ) → n < 100_000_000 → length (hundredths_text n) ≤ 9
length_small n h =
    let b = length-decimal-le 6 (n / 100) (omega arith) (omega arith) (omega arith) in
    omega (arith, length-append (decimal (n / 100)) (46 ∷ (48 + n / 10 % 10) ∷ (48 + n % 10) ∷ []))

text_short : (x : ℤ) → is_level x ≡ true → length (level_text x) ≤ longest_text
text_short (pos n) h = omega (arith, length_small n (level_small n h))
text_short (negsuc n) h = omega (arith, length_small (suc n) (level_small_below n h))

level_fits : (x : ℤ) → is_level x ≡ true → SFits w32 x
level_fits (pos n) h = record { sfits = omega (arith, level_small n h) }
level_fits (negsuc n) h = record { sfits = omega (arith, level_small_below n h) }

-- ---- the law
same_spelt : (text : List ℕ) (x : ℤ) → TextOf text x → spelt text ≡ x
same_spelt text x t = ap spelt t.1 ∙ spelt_text x t.0

own_text : (text : List ℕ) (x : ℤ) → TextOf text x → TextOf text (spelt text)
own_text text x t = subst (TextOf text) (sym (same_spelt text x t)) t

law_by : (text : List ℕ) (b : Bool) → Decides b (TextOf text (spelt text)) → ReadingLaw text (cond b (Ok (spelt text)) (Err (plain 27)))
law_by text true d =
    record {
      takes = λ x t. ap Ok (same_spelt text x t);
      only_takes = λ x e. let k : spelt text ≡ x = cc in subst (TextOf text) k (d.0 refl);
      refuses = λ none. absurd (none (spelt text) (d.0 refl));
      only_refuses = λ refusal e. absurd (let z : ◌≡◌ {A = ℕ} 0 1 = cc in omega arith);
    }
law_by text false d =
    let not : TextOf text (spelt text) → ⊥ = λ t. let e = d.1 t in let z : ◌≡◌ {A = ℕ} 0 1 = cc in omega arith in
    record {
      takes = λ x t. absurd (not (own_text text x t));
      only_takes = λ x e. absurd (let z : ◌≡◌ {A = ℕ} 0 1 = cc in omega arith);
      refuses = λ none. refl;
      only_refuses = λ refusal e x t. not (own_text text x t);
    }

told_text : (text : List ℕ) → Decides (is_level (spelt text) && bytes_eq text (level_text (spelt text))) (TextOf text (spelt text))
told_text text =
    Decides-and (is_level (spelt text)) (bytes_eq text (level_text (spelt text)))
    ((λ h. h), (λ h. h))
    (bytes_eq-Decides text (level_text (spelt text)))

pub reading_law : (text : List ℕ) → ReadingLaw text (reads text)
unfolding reads
reading_law text = law_by text _ (told_text text)

pub round_trip : RoundTrip
round_trip x h = (reading_law (level_text x)).takes x (h, refl)

pub no_two_share : NoTwoShareAText
no_two_share x y h k e = sym (spelt_text x h) ∙ ap spelt e ∙ spelt_text y k

-- ---- the answers of `read_level`
-- no level has so long a text
pub too_long : (text : List ℕ) → longest_text < length text → Err (plain 27) ≡ reads text
too_long text long =
    sym ((reading_law text).refuses (λ x t. let k : length text ≡ length (level_text x) = ap length t.1 in let s = text_short x t.0 in omega (arith, k, s)))

kept_by : (text : List ℕ) (b : Bool) → Decides b (TextOf text (spelt text)) → answered typing_told (ok_or (then_some b (spelt text)) NotALevel) ≡ reads text
kept_by text true d = sym ((reading_law text).takes (spelt text) (d.0 refl))
kept_by text false d = sym ((reading_law text).refuses (λ x t. absurd (let e = d.1 (own_text text x t) in let z : ◌≡◌ {A = ℕ} 0 1 = cc in omega arith)))

-- the number that a text spells, where it fits, is answered where this is its text
pub kept : {E : Type 0} (text : List ℕ) (number : Result ℤ E) (found : Option ℤ) → OkIff number (SFits w32 (spelt text)) (spelt text) → MatchOption (result_ok number) (found ≡ None) (λ x. (b : Bool) × Decides b (TextOf text x) × (found ≡ then_some b x)) → answered typing_told (ok_or found NotALevel) ≡ reads text
kept text (Ok x) found fits (b, d, e) =
    ap (λ o. answered typing_told (ok_or o NotALevel)) (e ∙ ap (then_some b) fits.1)
    ∙ kept_by text b (subst (λ y. Decides b (TextOf text y)) fits.1 d)
kept text (Err z) found wide e =
    ap (λ o. answered typing_told (ok_or o NotALevel)) e
    ∙ sym ((reading_law text).refuses (λ x t. wide (level_fits (spelt text) (own_text text x t).0)))

pub obeys : (text : List ℕ) (answer : Result ℤ Told) → answer ≡ reads text → ReadingLaw text answer
obeys text answer e = subst (ReadingLaw text) (sym e) (reading_law text)
