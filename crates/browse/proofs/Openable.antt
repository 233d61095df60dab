-- In a search of an accepted book each node that comes first can be opened.
use Rattle.std.proofs.Common.{◌≡◌, ℕ, suc, ◌+◌, ◌-◌, Bool, true, false, cond, ◌&&◌, eqb, ltb, leb, List, [], ◌∷◌, length, refl, ap, ◌∙◌, arith, Some, None, Option}
use Rattle.std.proofs.lemmas.Bool.{and_from, lt-ltb, le-leb, eq-eqb}
use Rattle.book.specs.Model.{Model, BookShape, node_count, pick_limit, level_of, places_of, place_count}
use Rattle.book.specs.declared.place.Entry.{Entry}
use Rattle.book_check.specs.Accepted.{Accepted, Stands}
use Rattle.search.proofs.Room.{Held, stand, held_room}
use Rattle.browse.specs.declared.waiting.Class.TheVariants.{Node, Pick}
use Rattle.browse.specs.Thing.{Thing, opens}
use Rattle.browse.specs.Tree.{Far, class_at, kids_as, tree_of}
use Rattle.browse.specs.Broken.{right_target, sound_place, sound_places, can_open}
use Rattle.browse.specs.Law.{Monotone}
use Rattle.browse.proofs.Places.{At, Full, length_full}
use Rattle.browse.proofs.Members.{Member, opens_node, full, pick_in_book, child_in_book, child_lower, outward, book_members}
use Rattle.browse.proofs.Once.{nodes_met, few_met}

all_sound : (m : Model) (far : Far) (level d : ℕ) (ps : List (Option Entry)) → Full ps → ((j : ℕ) (e : Entry) → At ps j e → sound_place m far level d (Some e) ≡ true) →
    sound_places m far level d ps ≡ true
all_sound m far level d [] h k = refl
all_sound m far level d (None ∷ ps) h k = let r = h 0 (omega arith) in absurd (cc (r.1))
all_sound m far level d (Some e ∷ ps) h k =
    and_from (sound_place m far level d (Some e)) (sound_places m far level d ps) (k 0 e refl)
    (all_sound m far level d ps (λ i l. h (suc i) (omega arith)) (λ j e a. k (suc j) e a))

module _ (m : Model) (far : Far) (acc : Accepted m) where
  right_target_lem : (n j : ℕ) (e : Entry) → Stands m n j e → right_target m (level_of m n) e.target ≡ true
  right_target_lem n j e s = at (eqb (level_of m n) 0) refl
    where
      at : (b : Bool) → eqb (level_of m n) 0 ≡ b →
          cond b (ltb e.target (pick_limit m)) (ltb e.target (node_count m - 1) && eqb (level_of m e.target + 1) (level_of m n)) ≡ true
      at true q = lt-ltb e.target (pick_limit m) (pick_in_book m far acc n j e s (ap (λ b. cond b Pick Node) q))
      at false q =
          let c : class_at (level_of m n) ≡ Node = ap (λ b. cond b Pick Node) q in
          and_from (ltb e.target (node_count m - 1)) (eqb (level_of m e.target + 1) (level_of m n))
          (lt-ltb e.target (node_count m - 1) (child_in_book m far acc n j e s c))
          (eq-eqb (level_of m e.target + 1) (level_of m n) (child_lower m far acc n j e s c))

  sound_node : Monotone far → (x : Thing) → Member m far x → x.class ≡ Node →
      sound_places m far (level_of m x.number) x.distance (places_of m x.number) ≡ true
  sound_node mono x p c =
      all_sound m far (level_of m x.number) x.distance (places_of m x.number) (full m far acc x.number)
      (λ j e s.
      and_from (leb x.distance (far e.bounds)) (right_target m (level_of m x.number) e.target)
      (le-leb x.distance (far e.bounds) (outward m far acc mono x p c j e s)) (right_target_lem x.number j e s))

  pub can_open_lem : BookShape m → Monotone far → (x : Thing) (w : List Thing) (n k : ℕ) → Held (tree_of m far) (Member m far) (stand (x ∷ w) n k) → opens x.class ≡ true →
      can_open m far (stand (x ∷ w) n k) x ≡ true
  unfolding can_open
  can_open_lem shape mono x w n k h o =
      let c = opens_node x.class o in
      let r = held_room (tree_of m far) (Member m far) (book_members m far acc mono) x w n k h o in
      let kids : length (kids_as m far x.class x.number) ≡ place_count m x.number =
      ap (λ z. length (kids_as m far z x.number)) c ∙ length_full far (class_at (level_of m x.number)) (places_of m x.number) (full m far acc x.number) in
      and_from (ltb n (node_count m)) (leb (suc (length w) + place_count m x.number) 2049 && sound_places m far (level_of m x.number) x.distance (places_of m x.number))
      (lt-ltb n (node_count m) (omega (arith, r.0, nodes_met m far acc shape mono)))
      (and_from (leb (suc (length w) + place_count m x.number) 2049) (sound_places m far (level_of m x.number) x.distance (places_of m x.number))
      (le-leb (suc (length w) + place_count m x.number) 2049 (omega (arith, r.1, kids, few_met m far acc shape mono)))
      (sound_node mono x h.members.0 c))
