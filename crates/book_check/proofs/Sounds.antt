-- The target of a place that is sound by itself, test by test.
use Rattle.std.proofs.Common.{◌≡◌, ℕ, Bool, true, false, not, [], ◌∷◌, Ok, Result, sym, refl, ap, ◌∙◌, zero-add, Some, None, Option}
use Rattle.std.specs.List.{list_any, range_with_len}
use Rattle.refusal.specs.Told.{Told, at_place}
use Rattle.geometry.specs.declared.bounds.Bounds.{Bounds}
use Rattle.book.specs.Model.{Model, level_of, place_count, place_of}
use Rattle.book.specs.declared.place.Entry.{Entry}
use Rattle.book_check.specs.Below.{first_of}
use Rattle.book_check.specs.Targets.{target_at, target_of, in_book, one_lower}
use Rattle.book_check.specs.Sound.{when, unless, outside, sticks_out, leaves_box, entry_fault, sound_target, sound_in}
use Rattle.book_check.specs.declared.target.Target.{Target}
use Rattle.book_check.proofs.Belows.{any_below}

-- ---- an entry outside the box

-- `any` over the places of a node
pub any_outside : (m : Model) (b : Bounds) (k : ℕ) → list_any (λ j. outside b (place_of m k j)) (range_with_len 0 (place_count m k)) ≡ sticks_out m b k
unfolding sticks_out
any_outside m b k =
    any_below (λ j. outside b (place_of m k j)) (λ j. outside b (place_of m k j)) 0 (place_count m k) (λ j. ap (λ i. outside b (place_of m k i)) (zero-add j))

-- ---- the tests of a place

-- what the three tests come to
abbrev by_tests : ℕ → ℕ → Bool → Bool → Bool → Target → Result Target Told
by_tests n i here low out t =
    unless (first_of (when (not here) (at_place 15 n i) ∷ when (not low) (at_place 16 n i) ∷ when out (at_place 17 n i) ∷ [])) t

-- v and t are the level and the target that the code reads
pub filled_target : (m : Model) (n i : ℕ) (e : Entry) (v : ℕ) (t : Target) (here low out : Bool) → Some e ≡ place_of m n i → v ≡ level_of m n → t ≡ target_at v e.target → here ≡ in_book m t → low ≡ one_lower m (level_of m n) t → out ≡ leaves_box m e.bounds t → by_tests n i here low out t ≡ sound_target m n i
unfolding sound_target
filled_target m n i e v t here low out h p q a b c =
    (λ j. by_tests n i (a j) (b j) (c j) t)
    ∙ ap (λ u. unless (entry_fault m n i e.bounds u) u) (q ∙ ap (λ l. target_at l e.target) p)
    ∙ ap (sound_in m n i) h

-- what is known of a place whose target is sound
pub record Sound (m : Model) (n i : ℕ) (t : Target) : Type 0 where
  pub entry : Entry
  pub stands : place_of m n i ≡ Some entry
  pub target : target_of m n entry ≡ t
  pub here : in_book m t ≡ true
  pub low : one_lower m (level_of m n) t ≡ true
  pub holds : leaves_box m entry.bounds t ≡ false

tests_parts : (n i : ℕ) (here low out : Bool) (u t : Target) → by_tests n i here low out u ≡ Ok t → (here ≡ true) × (low ≡ true) × (out ≡ false) × (u ≡ t)
tests_parts n i true true false u t h = (refl, refl, refl, cc)
tests_parts n i true true true u t h = absurd cc
tests_parts n i true false out u t h = absurd cc
tests_parts n i false low out u t h = absurd cc

parts : (m : Model) (n i : ℕ) (t : Target) (p : Option Entry) → place_of m n i ≡ p → sound_in m n i p ≡ Ok t → Sound m n i t
parts m n i t None e h = absurd cc
parts m n i t (Some f) e h =
    let u = target_of m n f in
    let r = tests_parts n i (in_book m u) (one_lower m (level_of m n) u) (leaves_box m f.bounds u) u t h in
    record {
      entry = f;
      stands = e;
      target = r.3;
      here = ap (in_book m) (sym r.3) ∙ r.0;
      low = ap (one_lower m (level_of m n)) (sym r.3) ∙ r.1;
      holds = ap (leaves_box m f.bounds) (sym r.3) ∙ r.2;
    }

pub sound_parts : (m : Model) (n i : ℕ) (t : Target) → sound_target m n i ≡ Ok t → Sound m n i t
unfolding sound_target
sound_parts m n i t h = parts m n i t (place_of m n i) refl h

pub sound_from : (m : Model) (n i : ℕ) (t : Target) → Sound m n i t → sound_target m n i ≡ Ok t
sound_from m n i t s =
    sym (filled_target m n i s.entry (level_of m n) t true true false (sym s.stands) refl (sym s.target) (sym s.here) (sym s.low) (sym s.holds))
