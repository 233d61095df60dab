-- Bytes put over others.
use Rattle.std.proofs.Common.{◌≡◌, ℕ, ◌+◌, ◌≤◌, List, [], ◌++◌, length, take, drop, sym, ap, ◌∙◌, append_assoc, arith, length-append, length-drop, length-take}
use Rattle.std.proofs.lemmas.List.{drop-drop, take-append-drop, length-take-le, take_at, drop_at}
use Rattle.file.specs.Pen.{placed}

pub length_placed : (xs : List ℕ) (at : ℕ) (ys : List ℕ) → at + length ys ≤ length xs → length (placed xs at ys) ≡ length xs
length_placed xs at ys room = simp (length-append, length-take, length-drop) (omega arith)

pub placed_none : (xs : List ℕ) (at : ℕ) → placed xs at [] ≡ xs
placed_none xs at = ap (λ k. take at xs ++ drop k xs) (let e : at + 0 ≡ at = omega arith in e) ∙ take-append-drop at xs

-- two pieces one after the other are one piece
pub placed_placed : (xs : List ℕ) (at : ℕ) (ys zs : List ℕ) → at + length ys ≤ length xs → placed (placed xs at ys) (at + length ys) zs ≡ placed xs at (ys ++ zs)
placed_placed xs at ys zs room =
    let front : length (take at xs ++ ys) ≡ at + length ys = omega (arith, length-append (take at xs) ys, length-take-le at xs (omega arith)) in
    let whole : placed xs at ys ≡ (take at xs ++ ys) ++ drop (at + length ys) xs = sym (append_assoc (take at xs) ys (drop (at + length ys) xs)) in
    let before : take (at + length ys) (placed xs at ys) ≡ take at xs ++ ys = ap (take (at + length ys)) whole ∙ take_at (take at xs ++ ys) _ _ front in
    let after : drop (at + length ys) (placed xs at ys) ≡ drop (at + length ys) xs = ap (drop (at + length ys)) whole ∙ drop_at (take at xs ++ ys) _ _ front in
    let beyond : drop (at + length ys + length zs) (placed xs at ys) ≡ drop (at + length (ys ++ zs)) xs =
    sym (drop-drop (length zs) (at + length ys) (placed xs at ys)) ∙ ap (drop (length zs)) after ∙ drop-drop (length zs) (at + length ys) xs
    ∙ ap (λ k. drop k xs) (omega (arith, length-append ys zs)) in
    ap (λ t. t ++ (zs ++ drop (at + length ys + length zs) (placed xs at ys))) before
    ∙ ap (λ t. (take at xs ++ ys) ++ (zs ++ t)) beyond
    ∙ append_assoc (take at xs) ys _
    ∙ ap (λ t. take at xs ++ t) (sym (append_assoc ys zs _))
