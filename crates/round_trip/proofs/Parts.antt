-- Small facts on answers, bytes and parts of lists.
use Rattle.std.proofs.Common.{◌≡◌, ℕ, zero, suc, ◌+◌, ◌<◌, List, [], ◌∷◌, ◌++◌, take, drop, Ok, Err, Result, sym, ap, ◌∙◌, arith}
use Rattle.std.proofs.lemmas.List.{take_all}
use Rattle.std.specs.List.{AllByRecursion}
use Rattle.refusal.specs.Told.{Told}

abbrev pub Bytes : List ℕ → Type 0
Bytes = AllByRecursion (λ b. b < 256)

pub bytes_parts : (xs ys : List ℕ) → Bytes (xs ++ ys) → Bytes xs × Bytes ys
bytes_parts [] ys small = (tt, small)
bytes_parts (x ∷ xs) ys small = let rest = bytes_parts xs ys small.1 in ((small.0, rest.0), rest.1)

pub ok_inj : {A : Type 0} {x y : A} → ◌≡◌ {A = Result A Told} (Ok x) (Ok y) → x ≡ y
ok_inj e = cc

pub err_ok : {A P : Type 0} {t : Told} {x : A} → Err t ≡ Ok x → P
err_ok e = let wrong : ◌≡◌ {A = ℕ} 0 1 = cc in absurd (omega arith)

pub take_add : {X : Type 0} (a b : ℕ) (xs : List X) → take (a + b) xs ≡ take a xs ++ take b (drop a xs)
take_add zero b xs = let e : 0 + b ≡ b = omega arith in ap (λ k. take k xs) e
take_add (suc a) b [] = take_all (suc a + b) [] (omega arith) ∙ sym (take_all b [] (omega arith))
take_add (suc a) b (x ∷ xs) =
    let e : suc a + b ≡ suc (a + b) = omega arith in
    ap (λ k. take k (x ∷ xs)) e ∙ ap (λ ys. x ∷ ys) (take_add a b xs)
