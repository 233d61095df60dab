-- The order of what waits: it is total, and a newcomer stands by it where the definition puts it.
use Rattle.std.specs.Prelude.{◌≡◌, ℕ, ◌+◌, ◌<◌, ◌≤◌, Bool, true, false, cond, not, ◌&&◌, List, [], ◌∷◌, map, length, take, ℤ, pos, negsuc, nat_lt, refl}
use Rattle.std.proofs.Common.{sym, ap, ◌∙◌, true≢false, arith}
use Rattle.std.proofs.lemmas.List.{length-map, length-take-le}
use Rattle.std.proofs.lemmas.Bool.{lt-ltb, ltb-true}
use Rattle.std.proofs.lemmas.Bool.Decides.{nat_tests}
use Rattle.queue.specs.Order.{TotalOrder}
use Rattle.queue.specs.Heap.{queued}
use Rattle.queue.specs.Sorted.{insert as put}
use Rattle.queue.specs.Orders.{key_order}
use Rattle.queue.proofs.Sorting.{length_sorted}
use Rattle.search.specs.Waiting.{insert}
use Rattle.browse.specs.declared.waiting.Class.{Class}
use Rattle.browse.specs.declared.waiting.Class.TheVariants.{Node, Pick}
use Rattle.browse.specs.declared.waiting.Waiting.{Waiting}
use Rattle.browse.specs.Thing.{Thing, rank, or_else, before}
use Rattle.browse.specs.Sooner.{top_number, key, sooner, came_before}
use Rattle.browse.specs.Desk.{thing_of}

same_class : (a b : Class) → rank a ≡ rank b → a ≡ b
same_class Node Node e = refl
same_class Node Pick e = absurd (omega arith)
same_class Pick Node e = absurd (omega arith)
same_class Pick Pick e = refl

same_top : (a b : ℤ) → top_number a ≡ top_number b → a ≡ b
same_top (pos m) (pos n) e = let h : m ≡ n = omega arith in ap pos h
same_top (pos m) (negsuc n) e = absurd (omega arith)
same_top (negsuc m) (pos n) e = absurd (omega arith)
same_top (negsuc m) (negsuc n) e = let h : m ≡ n = omega arith in ap negsuc h

apart : (x y : Waiting) → key x ≡ key y → x ≡ y
apart x y e =
    let d : x.distance ≡ y.distance = cc in
    let r : rank x.class ≡ rank y.class = cc in
    let n : x.number ≡ y.number = cc in
    let a : x.arrival ≡ y.arrival = cc in
    let z : top_number x.top ≡ top_number y.top = cc in
    let c = same_class _ _ r in
    let t = same_top _ _ z in
    λ i. record { distance = d i; class = c i; number = n i; arrival = a i; top = t i }

pub sooner_total : TotalOrder sooner
sooner_total = key_order key apart

turn : (a b : ℕ) (r s : Bool) → r ≡ not s → or_else a b r ≡ not (or_else b a s)
turn a b r s e = grind (arith, nat_tests)

-- who came earlier stands in front unless the newcomer comes before it
newcomer : (x y : Waiting) → y.arrival < x.arrival → sooner y x ≡ not (before (thing_of x) (thing_of y))
newcomer x y h =
    turn y.distance x.distance _ (or_else (rank x.class) (rank y.class) (nat_lt x.number y.number))
    (turn (rank y.class) (rank x.class) _ (nat_lt x.number y.number) (last y.number x.number))
  where
    last : (a b : ℕ) → or_else a b (or_else y.arrival x.arrival (or_else (top_number y.top) (top_number x.top) false)) ≡ not (nat_lt b a)
    last a b = grind (arith, nat_tests)

came : (b c : Bool) → b && c ≡ true → (b ≡ true) × (c ≡ true)
came true true e = (refl, refl)
came true false e = absurd (true≢false (sym e))
came false c e = absurd (true≢false (sym e))

module _ (x : Waiting) where
  -- a newcomer, in the table as in the definition
  pub entered : (l : List Waiting) → came_before x.arrival l ≡ true → map thing_of (put sooner x l) ≡ insert before (thing_of x) (map thing_of l)
  entered [] h = refl
  entered (y ∷ l) h = let k = came _ _ h in by _ _ (newcomer x y (ltb-true _ _ k.0)) (entered l k.1)
    where
      by : (b c : Bool) → b ≡ not c → map thing_of (put sooner x l) ≡ insert before (thing_of x) (map thing_of l) →
          map thing_of (cond b (y ∷ put sooner x l) (x ∷ y ∷ l)) ≡ cond c (thing_of x ∷ thing_of y ∷ map thing_of l) (thing_of y ∷ insert before (thing_of x) (map thing_of l))
      by true true e f = absurd (true≢false e)
      by true false e f = ap (λ (w : List Thing). thing_of y ∷ w) f
      by false true e f = refl
      by false false e f = absurd (true≢false (sym e))

  later : (l : List Waiting) → came_before x.arrival l ≡ true → came_before (x.arrival + 1) l ≡ true
  later [] h = refl
  later (y ∷ l) h =
      let k = came _ _ h in
      let z : y.arrival < x.arrival = ltb-true _ _ k.0 in
      λ i. lt-ltb y.arrival (x.arrival + 1) (omega arith) i && later l k.1 i

  pub came_entered : (l : List Waiting) → came_before x.arrival l ≡ true → came_before (x.arrival + 1) (put sooner x l) ≡ true
  came_entered [] h = λ i. lt-ltb x.arrival (x.arrival + 1) (omega arith) i && true
  came_entered (y ∷ l) h = by (came_entered l (came _ _ h).1) (sooner y x)
    where
      here : came_before (x.arrival + 1) (y ∷ l) ≡ true
      here = later (y ∷ l) h

      by : came_before (x.arrival + 1) (put sooner x l) ≡ true → (b : Bool) → came_before (x.arrival + 1) (cond b (y ∷ put sooner x l) (x ∷ y ∷ l)) ≡ true
      by e true = λ i. (came (nat_lt y.arrival (x.arrival + 1)) (came_before (x.arrival + 1) l) here).0 i && e i
      by e false = λ i. lt-ltb x.arrival (x.arrival + 1) (omega arith) i && here i

pub length_waiting : (n : ℕ) (xs : List Waiting) → n ≤ length xs → length (map thing_of (queued sooner n xs)) ≡ n
length_waiting n xs h = length-map (queued sooner n xs) thing_of ∙ length_sorted sooner (take n xs) ∙ length-take-le n xs h
