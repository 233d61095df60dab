-- The three things that a node must meet to be opened.
use Rattle.std.proofs.Common.{◌≡◌, ◌+◌, ◌<◌, ◌≤◌, Bool, true, false, ◌&&◌, ltb, leb, length, Some, None, sym, refl, ap, true≢false}
use Rattle.std.proofs.lemmas.Bool.{ltb-true, lt-ltb, le-ltb, leb-true, le-leb, lt-leb}
use Rattle.book.specs.Model.{Model, node_count, level_of, places_of, place_count}
use Rattle.search.specs.Search.{Standing}
use Rattle.browse.specs.Thing.{Thing}
use Rattle.browse.specs.Tree.{Far, class_at, things}
use Rattle.browse.specs.Broken.{sound_places, can_open}
use Rattle.browse.specs.Opening.{only_if, sound_kids, kids_to_open}

pub only_if_not : {A : Type 0} (b : Bool) (a : A) → only_if b a ≡ None → b ≡ false
only_if_not true a e = absurd (cc (e))
only_if_not false a e = refl

pub only_if_lem : {A : Type 0} (b : Bool) (a c : A) → only_if b a ≡ Some c → (b ≡ true) × (a ≡ c)
only_if_lem true a c e = let f : a ≡ c = cc in (refl, f)
only_if_lem false a c e = absurd (cc (e))

module _ (m : Model) (far : Far) (s : Standing Thing) (x : Thing) where
  abbrev sound : Bool
  sound = sound_places m far (level_of m x.number) x.distance (places_of m x.number)

  abbrev roomy : Bool
  roomy = leb (length s.waiting + place_count m x.number) 2049

  given : (b : Bool) → can_open m far s x ≡ b → kids_to_open m far s x ≡ only_if b (things far (class_at (level_of m x.number)) (places_of m x.number))
  given b e = ap (λ c. only_if c (things far (class_at (level_of m x.number)) (places_of m x.number))) e

  all_opened : node_count m ≤ s.opened → can_open m far s x ≡ false
  unfolding can_open
  all_opened h = ap (λ b. b && (roomy && sound)) (le-ltb _ _ h)

  crowded : s.opened < node_count m → 2049 < length s.waiting + place_count m x.number → can_open m far s x ≡ false
  unfolding can_open
  crowded h k = λ i. lt-ltb s.opened (node_count m) h i && (lt-leb (length s.waiting + place_count m x.number) 2049 k i && sound)

  left : s.opened < node_count m → length s.waiting + place_count m x.number ≤ 2049 → can_open m far s x ≡ sound
  unfolding can_open
  left h k = λ i. lt-ltb s.opened (node_count m) h i && (le-leb (length s.waiting + place_count m x.number) 2049 k i && sound)

  pub none_if_all_opened : node_count m ≤ s.opened → None ≡ kids_to_open m far s x
  none_if_all_opened h = sym (given false (all_opened h))

  pub none_if_crowded : s.opened < node_count m → 2049 < length s.waiting + place_count m x.number → None ≡ kids_to_open m far s x
  none_if_crowded h k = sym (given false (crowded h k))

  pub else_if_sound : s.opened < node_count m → length s.waiting + place_count m x.number ≤ 2049 →
      sound_kids m far (level_of m x.number) x.distance (places_of m x.number) ≡ kids_to_open m far s x
  else_if_sound h k = sym (given sound (left h k))

  both : (a b c : Bool) → a && (b && c) ≡ true → (a ≡ true) × (b ≡ true)
  both true true c e = (refl, refl)
  both true false c e = absurd (true≢false (sym e))
  both false b c e = absurd (true≢false (sym e))

  pub can_open_says : can_open m far s x ≡ true → (s.opened < node_count m) × (length s.waiting + place_count m x.number ≤ 2049)
  unfolding can_open
  can_open_says e = let r = both (ltb s.opened (node_count m)) roomy sound e in (ltb-true _ _ r.0, leb-true _ _ r.1)
