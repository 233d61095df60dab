-- A node of one row of a tree by sixteens: what its places hold, and what lies below them.
use Rattle.std.proofs.Common.{◌≡◌, ℕ, ◌+◌, ◌-◌, ◌*◌, ◌<◌, min, List, length, get_or, Some, None, Option, sym, ap, ◌∙◌, arith}
use Rattle.book.specs.Model.{Model, Node, node_of, level_of, place_count, place_of}
use Rattle.book.specs.declared.place.Entry.{Entry}
use Rattle.geometry.specs.declared.bounds.Bounds.{Bounds}
use Rattle.book_check.specs.Accepted.{Stands}
use Rattle.book_check.proofs.Naming.{place_there}
use Rattle.makes.specs.Places.{place_for}
use Rattle.makes.specs.Sixteens.{named, group, node_with}
use Rattle.makes.specs.Groups.{named_length, named_at, group_length, group_at, above, above_length, above_at}
use Rattle.std.proofs.lemmas.Option.{none-some}
use Rattle.accepted_makes.specs.Tallies.{Full}
use Rattle.accepted_makes.proofs.Enough.{Below}
use Rattle.accepted_makes.proofs.Roots.{smallest_some, in_smallest}

-- the row above boxes that are all there is all there
pub full_above : (xs : List (Option Bounds)) → Full xs → Full (above xs)
full_above xs full q h =
    let start : 16 * q + 0 < length xs = omega (arith, above_length xs) in
    let b = full (16 * q + 0) start in
    let r = smallest_some (group xs q) 0 b.0 (omega (arith, group_length xs q)) (group_at xs q 0 None (omega arith) ∙ b.1) in
    (r.0, above_at xs q ∙ r.1)

place_parts : (a : ℕ) (o : Option Bounds) (e : Entry) → place_for a o ≡ Some e → (e.target ≡ a) × (o ≡ Some e.bounds)
place_parts a (Some b) e h = (cc, cc)
place_parts a None e h = absurd (none-some e h)

-- what is known of an entry at place i of group k of a row
pub record Sits (t k i : ℕ) (xs : List (Option Bounds)) (e : Entry) : Type 0 where
  pub low : i < 16
  pub inside : 16 * k + i < length xs
  pub number : e.target ≡ t + (16 * k + i)
  pub box : get_or xs (16 * k + i) None ≡ Some e.bounds

module _ (m : Model) (n v t k : ℕ) (xs : List (Option Bounds)) (here : node_of m n ≡ node_with v (group (named t xs) k)) where
  pub row_level : level_of m n ≡ v
  row_level = ap (λ (x : Node). x.level) here

  pub row_count : place_count m n ≡ min 16 (length xs - 16 * k)
  row_count = ap (λ (x : Node). length x.places) here ∙ group_length (named t xs) k ∙ ap (λ z. min 16 (z - 16 * k)) (named_length t xs)

  row_place : (i : ℕ) → i < 16 → place_of m n i ≡ place_for (t + (16 * k + i)) (get_or xs (16 * k + i) None)
  row_place i h = ap (λ (x : Node). get_or x.places i None) here ∙ group_at (named t xs) k i None h ∙ named_at t xs (16 * k + i)

  pub row_sits : (i : ℕ) (e : Entry) → Stands m n i e → Sits t k i xs e
  row_sits i e s =
      let there = place_there m n i e s in
      let low : i < 16 = omega (arith, there, row_count) in
      let p = place_parts (t + (16 * k + i)) (get_or xs (16 * k + i) None) e (sym (row_place i low) ∙ s) in
      record { low = low; inside = omega (arith, there, row_count); number = p.0; box = p.1 }

  pub row_filled : Full xs → (i : ℕ) → i < 16 → 16 * k + i < length xs → (e : Entry) × Stands m n i e
  row_filled full i low inside =
      let b = full (16 * k + i) inside in
      (record { bounds = b.0; target = t + (16 * k + i) }, row_place i low ∙ ap (place_for (t + (16 * k + i))) b.1)

-- an entry of the row above names the node of its group
pub row_below : (m : Model) (n c v t t' k i : ℕ) (xs : List (Option Bounds)) → node_of m n ≡ node_with (v + 1) (group (named t (above xs)) k) → node_of m c ≡ node_with v (group (named t' xs) (16 * k + i)) → (e : Entry) → Sits t k i (above xs) e → Below m n e c
row_below m n c v t t' k i xs here there e sits = (
  omega (arith, row_level m n (v + 1) t k (above xs) here, row_level m c v t' (16 * k + i) xs there),
  λ j g s.
      let q = row_sits m c v t' (16 * k + i) xs there j g s in
      in_smallest (group xs (16 * k + i)) e.bounds (sym (above_at xs (16 * k + i)) ∙ sits.box) j g.bounds
      (omega (arith, group_length xs (16 * k + i), q.low, q.inside))
      (group_at xs (16 * k + i) j None q.low ∙ q.box),
)
