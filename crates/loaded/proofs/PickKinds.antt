-- The kinds of pick records, one after another.
use Rattle.std.proofs.Common.{◌≡◌, ℕ, ◌≤◌, Bool, ◌&&◌, List, [], ◌∷◌, length, is_some, is_ok, Some, None, Option, true, false, sym, refl, ◌∙◌, arith}
use Rattle.book.specs.Kinds.{kind_with}
use Rattle.book.specs.declared.kind.Kind.{Kind}
use Rattle.std.specs.Option.{ok_or}
use Rattle.std.specs.List.{fold}
use Rattle.book.specs.declared.kind.UnknownKind.{UnknownKind}
use Rattle.loaded.specs.Decode.{all_kinds, with_kind, kinds_from}

-- a number has a kind where the conversion gives one
pub numbered_ok : (o : Option Kind) (e : UnknownKind) → is_ok (ok_or o e) ≡ is_some o
numbered_ok (Some k) e = refl
numbered_ok None e = refl

and_true : (a : Bool) → a && true ≡ a
and_true true = refl
and_true false = refl

and_assoc : (a b c : Bool) → (a && b) && c ≡ a && (b && c)
and_assoc true b c = refl
and_assoc false b c = refl

-- whether all were kinds so far, and this number is one
abbrev pub and_kind : Bool → ℕ → Bool
and_kind all b = all && is_some (kind_with b)

kinds_after : (all : Bool) (bs : List ℕ) → fold and_kind all bs ≡ all && all_kinds bs
kinds_after all [] = sym (and_true all)
kinds_after all (b ∷ bs) = kinds_after (and_kind all b) bs ∙ and_assoc all (is_some (kind_with b)) (all_kinds bs)

pub all_are_kinds : (bs : List ℕ) → fold and_kind true bs ≡ all_kinds bs
all_are_kinds bs = kinds_after true bs

pub few_kinds : (bs : List ℕ) → length (kinds_from bs) ≤ length bs
few_kinds [] = omega arith
few_kinds (b ∷ bs) = elim (kind_with b) as (λ o. length (with_kind o (kinds_from bs)) ≤ length (b ∷ bs)) [ Some k ↦ omega (arith, few_kinds bs) | None ↦ omega (arith, few_kinds bs) ]
