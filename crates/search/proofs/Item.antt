-- The order of items is lawful, and so is the search of every sound tree of items.
use Rattle.std.proofs.Common.{◌≡◌, ℕ, ◌<◌, ◌≤◌, true, false, List, refl, arith}
use Rattle.std.specs.List.{AllByRecursion as All}
use Rattle.std.proofs.lemmas.Bool.{true≢false, false≢true}
use Rattle.std.proofs.lemmas.Bool.Decides.{nat_tests}
use Rattle.search.specs.Tree.{below, Sound}
use Rattle.search.specs.Item.{Class, node, final, Item, is_node, rank, before_item, item_tree, SearchIsLawful, NextTellsTheNearest}
use Rattle.search.proofs.Tree.{Ordered, sound_members}
use Rattle.search.proofs.Law.{lawful, nearest_is_told}

same_class : (c d : Class) → rank c ≡ rank d → c ≡ d
same_class node node e = refl
same_class node final e = absurd (omega (arith, e))
same_class final node e = absurd (omega (arith, e))
same_class final final e = refl

nodes_rank_first : (c d : Class) → is_node c ≡ true → is_node d ≡ false → rank c < rank d
nodes_rank_first node node e f = absurd (true≢false f)
nodes_rank_first node final e f = omega arith
nodes_rank_first final d e f = absurd (false≢true e)

item_oneway : (x y : Item) → before_item x y ≡ true → before_item y x ≡ false
item_oneway x y h = grind (arith, nat_tests)

item_chain : (x y z : Item) → before_item x y ≡ false → before_item y z ≡ false → before_item x z ≡ false
item_chain x y z h k = grind (arith, nat_tests)

item_nearest : (x y : Item) → x.distance < y.distance → before_item x y ≡ true
item_nearest x y i = grind (arith, nat_tests)

item_nodes : (x y : Item) → is_node x.class ≡ true → is_node y.class ≡ false → x.distance ≤ y.distance → before_item x y ≡ true
item_nodes x y h k i = let r = nodes_rank_first x.class y.class h k in grind (arith, nat_tests)

item_same : (x y : Item) → before_item x y ≡ false → before_item y x ≡ false → x ≡ y
item_same x y h k =
    let d : x.distance ≡ y.distance = grind (arith, nat_tests) in
    let c : rank x.class ≡ rank y.class = grind (arith, nat_tests) in
    let n : x.number ≡ y.number = grind (arith, nat_tests) in
    λ i. record { distance = d i; class = same_class x.class y.class c i; number = n i }

pub item_ordered : (kids : Item → List Item) (height : Item → ℕ) (root : Item) (Member : Item → Type 0) → Ordered (item_tree kids height root) Member
item_ordered kids height root Member = record { oneway = item_oneway; chain = item_chain; same = λ x y _ _ h k. item_same x y h k; nearest_first = item_nearest; nodes_first = item_nodes }

pub search_is_lawful : SearchIsLawful
search_is_lawful kids height root sound unlimited near =
    let t = item_tree kids height root in
    let Member : Item → Type 0 = λ x. All (Sound t) (below t x) in
    lawful t Member (sound_members t sound) (item_ordered kids height root Member) unlimited near

pub next_tells_the_nearest : NextTellsTheNearest
next_tells_the_nearest kids height root sound =
    let t = item_tree kids height root in
    let Member : Item → Type 0 = λ x. All (Sound t) (below t x) in
    nearest_is_told t Member (sound_members t sound) (item_ordered kids height root Member)
