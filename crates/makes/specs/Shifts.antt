-- What a shifted book answers, and shifts put together.
use Rattle.std.specs.Prelude.{◌≡◌, ℕ, length, Some, slice_index_or, refl, None, Option}
use Rattle.std.proofs.Common.{sym, ◌∙◌, ap, arith}
use Rattle.std.proofs.Math.ListN.{get_or-map}
use Rattle.std.specs.List.{AllByRecursion}
use Rattle.std.proofs.lemmas.List.{map-id, length-map}
use Rattle.std.proofs.lemmas.Option.{none-some}
use Rattle.book.specs.Model.{Node, Model, BookShape, no_node, node_of, node_count, level_of, place_count, place_of}
use Rattle.book.specs.declared.place.Entry.{Entry}
use Rattle.geometry.specs.Moved.{moved_point, moved_bounds}
use Rattle.geometry.specs.declared.bounds.Point.{Point}
use Rattle.makes.specs.Offset.{no_move, opposite}
use Rattle.makes.specs.Places.{place_for}
use Rattle.makes.specs.Shift.{shifted_place, shifted_node, shifted, StaysIn, Stays}
use Rattle.geometry.proofs.Boxes.{by_option}
use Rattle.makes.specs.Shapes.{shape_by, targets_of}
use Rattle.makes.specs.Maps.{map_same, map_twice}
use Rattle.makes.specs.Moves.{move_none, move_twice, move_back, there}

module _ (by : Point) (m : Model) where
  pub count_shift : node_count (shifted by m) ≡ node_count m
  count_shift = length-map m.nodes (shifted_node by)

  node_shift : (n : ℕ) → node_of (shifted by m) n ≡ shifted_node by (node_of m n)
  node_shift n = get_or-map (shifted_node by) m.nodes n no_node

  pub level_shift : (n : ℕ) → level_of (shifted by m) n ≡ level_of m n
  level_shift n = ap (λ (k : Node). k.level) (node_shift n)

  pub places_shift : (n : ℕ) → place_count (shifted by m) n ≡ place_count m n
  places_shift n = ap (λ (k : Node). length k.places) (node_shift n) ∙ length-map (node_of m n).places (shifted_place by)

  pub place_shift : (n i : ℕ) → place_of (shifted by m) n i ≡ shifted_place by (place_of m n i)
  place_shift n i =
      ap (λ (k : Node). slice_index_or k.places i None) (node_shift n) ∙ get_or-map (shifted_place by) (node_of m n).places i None

-- what a filled place of a shifted book was
target_shift : (by : Point) (p : Option Entry) (e : Entry) → shifted_place by p ≡ Some e → (f : Entry) × (p ≡ Some f) × (e.target ≡ f.target)
target_shift by (Some f) e q = (
  f,
  refl,
  by_option (moved_bounds f.bounds by) (λ r. let z : None ≡ Some e = rw r at q in cc)
      (λ b r. let z : place_for f.target (Some b) ≡ Some e = rw r at q in cc),
)
target_shift by None e q = absurd (none-some e q)

pub shape_shift : (by : Point) (m : Model) → BookShape m → BookShape (shifted by m)
shape_shift by m s =
    shape_by (shifted by m)
    (omega (arith, count_shift by m, s.some_node))
    (omega (arith, count_shift by m, s.nodes_most))
    s.picks_most
    (λ n. omega (arith, level_shift by m n, s.levels_most n))
    (λ n. omega (arith, places_shift by m n, s.places_most n))
    (λ n i e p.
    let was = target_shift by (place_of m n i) e (sym (place_shift by m n i) ∙ p) in
    omega (arith, was.2, targets_of m s n i was.0 was.1))

same_node : (n k : Node) → n.level ≡ k.level → n.places ≡ k.places → n ≡ k
same_node n k e f = λ i. record { level = e i; places = f i }

place_none : (by : Point) → by ≡ no_move → (p : Option Entry) → shifted_place by p ≡ p
place_none by z (Some e) = ap (λ by. place_for e.target (moved_bounds e.bounds by)) z ∙ ap (place_for e.target) (move_none e.bounds)
place_none by z None = refl

-- no move leaves a book as it is
pub shift_none : (by : Point) → by ≡ no_move → (m : Model) → shifted by m ≡ m
shift_none by z m =
    ap (λ ns. record { nodes = ns; kinds = m.kinds })
    (map_same (shifted_node by) (λ n. same_node (shifted_node by n) n refl (map_same (shifted_place by) (place_none by z) n.places)) m.nodes)

place_twice : (by next both : Point) → both ≡ moved_point by next → (p : Option Entry) → StaysIn by p → shifted_place next (shifted_place by p) ≡ shifted_place both p
place_twice by next both z (Some e) stays =
    let moved = there (moved_bounds e.bounds by) stays in
    ap (λ b. shifted_place next (place_for e.target b)) moved.1
    ∙ ap (place_for e.target) (move_twice e.bounds moved.0 by next moved.1 ∙ ap (moved_bounds e.bounds) (sym z))
place_twice by next both z None stays = refl

pub shift_twice : (by next both : Point) → both ≡ moved_point by next → (m : Model) → Stays by m → shifted next (shifted by m) ≡ shifted both m
shift_twice by next both z m stays =
    ap (λ ns. record { nodes = ns; kinds = m.kinds })
    (map_twice (shifted_node next) (shifted_node by) (shifted_node both) (λ n. AllByRecursion (StaysIn by) n.places)
    (λ n s. same_node _ _ refl (map_twice (shifted_place next) (shifted_place by) (shifted_place both) (StaysIn by) (place_twice by next both z) n.places s))
    m.nodes stays)

place_back : (by back : Point) → back ≡ opposite by → (p : Option Entry) → StaysIn by p → shifted_place back (shifted_place by p) ≡ p
place_back by back z (Some e) stays =
    let moved = there (moved_bounds e.bounds by) stays in
    ap (λ b. shifted_place back (place_for e.target b)) moved.1
    ∙ ap (place_for e.target) (ap (moved_bounds moved.0) z ∙ move_back e.bounds moved.0 by moved.1)
place_back by back z None stays = refl

node_back : (by back : Point) → back ≡ opposite by → (n : Node) → AllByRecursion (StaysIn by) n.places → shifted_node back (shifted_node by n) ≡ n
node_back by back z n s =
    same_node _ n refl
    (map_twice (shifted_place back) (shifted_place by) (λ p. p) (StaysIn by) (place_back by back z) n.places s ∙ map-id n.places)

-- there and back
pub shift_back : (by back : Point) → back ≡ opposite by → (m : Model) → Stays by m → shifted back (shifted by m) ≡ m
shift_back by back z m stays =
    ap (λ ns. record { nodes = ns; kinds = m.kinds })
    (map_twice (shifted_node back) (shifted_node by) (λ n. n) (λ n. AllByRecursion (StaysIn by) n.places) (node_back by back z) m.nodes stays ∙ map-id m.nodes)
