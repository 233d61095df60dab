-- The walk down from the root of an accepted book meets each node just once. So what it meets is the root and what all entries name.
use Rattle.std.proofs.Common.{◌≡◌, ℕ, zero, suc, ◌+◌, ◌<◌, ◌≤◌, Bool, true, false, cond, ◌&&◌, eqb, List, [], ◌∷◌, length, sym, refl, ap, ◌∙◌, subst, inl, ⊎_elim, arith, Some, None, Option}
use Rattle.std.specs.List.{flat_map, AllByRecursion as All}
use Rattle.std.proofs.lemmas.Bool.{cases_eq, eq-eqb, ne_eqb}
use Rattle.std.proofs.ByRecursion.{All-weaker, All-from_get_or}
use Rattle.std.proofs.lemmas.List.{length-append}
use Rattle.std.proofs.lemmas.List.Sums.{length-filter}
use Rattle.book.specs.Model.{Model, BookShape, node_count, level_of, places_of, place_of, no_node}
use Rattle.book.specs.Model as book
use Rattle.book.specs.declared.place.Entry.{Entry}
use Rattle.book_check.specs.declared.target.Target.TheVariants.{Pick as PickTarget, Child}
use Rattle.book_check.specs.Targets.{target_at, root_of}
use Rattle.book.proofs.Places.{places_summed}
use Rattle.book_check.specs.Accepted.{Accepted, Parent, Stands}
use Rattle.search.specs.Tree.{Tree, below, nodes}
use Rattle.search.proofs.Lists.{total, Alike, one, total_joined, total_none, total_same, count_by_total, total_sum_by, alike_length, all_every}
use Rattle.search.proofs.Tree.{below_meets, members_below}
use Rattle.browse.specs.declared.waiting.Class.{Class}
use Rattle.browse.specs.declared.waiting.Class.TheVariants.{Node, Pick}
use Rattle.browse.specs.Thing.{Thing, opens}
use Rattle.browse.specs.Tree.{Far, class_at, thing, things, kids_as, root_thing, tree_of}
use Rattle.browse.specs.Law.{Monotone}
use Rattle.browse.proofs.Places.{at_within, from, total_things, total_only, length_things}
use Rattle.browse.proofs.Members.{Member, two_classes, names_child, in_range_lem, child_in_book, node_number, book_members}
use Rattle.browse.proofs.Below.{sum_below, sum_ones, sum_list, is, each_once}

-- what the entries of a node name
abbrev pub things_in : Far → book.Node → List Thing
things_in far nd = things far (class_at nd.level) nd.places

-- the root, and what all entries name
abbrev pub all_things : Model → Far → List Thing
all_things m far = root_thing m ∷ flat_map (things_in far) m.nodes

abbrev pub is_the : ℕ → Thing → Bool
is_the = is (λ x. opens x.class) (λ x. x.number)

child_target : (level j k : ℕ) → target_at level j ≡ Child k → (class_at level ≡ Node) × (j ≡ k)
child_target level j k = at (eqb level 0)
  where
    at : (b : Bool) → cond b (PickTarget j) (Child j) ≡ Child k → (cond b Pick Node ≡ Node) × (j ≡ k)
    at true e = absurd (cc (e))
    at false e = (refl, cc (e))

module _ (m : Model) (far : Far) (acc : Accepted m) where
  -- whether a place of node k, or an entry of it, names the node n
  abbrev naming : ℕ → ℕ → Option Entry → ℕ
  naming k n = from far (class_at (level_of m k)) (λ z. one (is_the n z))

  names_is : (k n : ℕ) (e : Entry) → (class_at (level_of m k) ≡ Node) × (e.target ≡ n) → one (is_the n (thing far (class_at (level_of m k)) e)) ≡ 1
  names_is k n e h = λ i. one (opens (h.0 i) && eq-eqb e.target n h.1 i)

  names_not : (k n : ℕ) (e : Entry) → (class_at (level_of m k) ≡ Node → e.target ≡ n → ⊥) → one (is_the n (thing far (class_at (level_of m k)) e)) ≡ 0
  names_not k n e h =
      ⊎_elim (λ c. (λ i. one (opens (c i) && ne_eqb e.target n (h c) i)))
      (λ c. (λ i. one (opens (c i) && eqb e.target n))) (two_classes (class_at (level_of m k)))

  place_not : (k n : ℕ) (p : Option Entry) → ((e : Entry) → p ≡ Some e → class_at (level_of m k) ≡ Node → e.target ≡ n → ⊥) → naming k n p ≡ 0
  place_not k n None h = refl
  place_not k n (Some e) h = names_not k n e (h e refl)

  module _ (n : ℕ) (l : n < root_of m) where
    abbrev p : Parent m n
    p = acc.parent n l

    named_by : (k j : ℕ) (e : Entry) → Stands m k j e → class_at (level_of m k) ≡ Node → e.target ≡ n → (k ≡ p.node) × (j ≡ p.place)
    named_by k j e s c t = p.only k j (e, s, names_child (level_of m k) e.target c ∙ ap Child t)

    -- the parent names it once
    in_parent : total (naming p.node n) (places_of m p.node) ≡ 1
    in_parent =
        let k = p.node in
        let inside = at_within (places_of m k) p.place p.entry p.stands in
        total_only (naming k n) (places_of m k) None p.place inside
        (λ j _ other. place_not k n (place_of m k j) (λ e s c t. other (named_by k j e s c t).1))
        ∙ ap (naming k n) p.stands
        ∙ names_is k n p.entry (child_target (level_of m k) p.entry.target n p.names)

    -- and no other node does
    in_other : (k : ℕ) → (k ≡ p.node → ⊥) → total (naming k n) (places_of m k) ≡ 0
    in_other k other =
        total_none (naming k n) (places_of m k)
        (All-from_get_or (λ q. naming k n q ≡ 0) (places_of m k) None
        (λ j _. place_not k n (place_of m k j) (λ e s c t. other (named_by k j e s c t).0)))

    pub named_once : (y : Thing) → total (λ z. one (is_the n z)) (kids_as m far y.class y.number) ≡ one (is_the p.node y)
    named_once y = at y.class y.number
      where
        at : (c : Class) (k : ℕ) → total (λ z. one (is_the n z)) (kids_as m far c k) ≡ one (opens c && eqb k p.node)
        at Pick k = refl
        at Node k =
            total_things far (class_at (level_of m k)) (λ z. one (is_the n z)) (places_of m k)
            ∙ ⊎_elim
            (λ e.
            subst (λ k. total (naming k n) (places_of m k) ≡ 1) (sym e) in_parent ∙ sym (ap one (eq-eqb k p.node e)))
            (λ e. in_other k e ∙ sym (ap one (ne_eqb k p.node e)))
            (cases_eq k p.node)

  -- nothing names the root
  root_unnamed : (y : Thing) → total (λ z. one (is_the (root_of m) z)) (kids_as m far y.class y.number) ≡ 0
  root_unnamed y = at y.class y.number
    where
      at : (c : Class) (k : ℕ) → total (λ z. one (is_the (root_of m) z)) (kids_as m far c k) ≡ 0
      at Pick k = refl
      at Node k =
          total_things far (class_at (level_of m k)) (λ z. one (is_the (root_of m) z)) (places_of m k)
          ∙ total_none (naming k (root_of m)) (places_of m k)
          (All-from_get_or (λ q. naming k (root_of m) q ≡ 0) (places_of m k) None
          (λ j _. place_not k (root_of m) (place_of m k j) (λ e s c t. omega (arith, child_in_book m far acc k j e s c, t))))

  module _ (shape : BookShape m) (mono : Monotone far) where
    abbrev t : Tree Thing
    t = tree_of m far

    abbrev walked : List Thing
    walked = below t t.root

    meets : (f : Thing → ℕ) → total f walked ≡ f (root_thing m) + total (λ y. total f (kids_as m far y.class y.number)) walked
    meets f = below_meets t (Member m far) (book_members m far acc mono) f t.root (inl refl)

    met_from : (h n : ℕ) → n < node_count m → 7 < level_of m n + h → total (λ z. one (is_the n z)) walked ≡ 1
    met_from zero n i j = absurd (omega (arith, shape.levels_most n, j))
    met_from (suc h) n i j =
        ⊎_elim
        (λ e. subst (λ n. total (λ z. one (is_the n z)) walked ≡ 1) (sym e)
        (let a : one (is_the (root_of m) (root_thing m)) ≡ 1 = ap one (eq-eqb (root_of m) (root_of m) refl) in
        let b = total_none (λ y. total (λ z. one (is_the (root_of m) z)) (kids_as m far y.class y.number)) walked (all_every (λ y. total (λ z. one (is_the (root_of m) z)) (kids_as m far y.class y.number) ≡ 0) root_unnamed walked) in
        omega (arith, meets (λ z. one (is_the (root_of m) z)), a, b)))
        (λ e.
        let l : n < root_of m = omega (arith, i, e) in
        let q = acc.parent n l in
        let a : one (is_the n (root_thing m)) ≡ 0 = ap one (ne_eqb (root_of m) n (λ r. e (sym r))) in
        let b = total_same (λ y. total (λ z. one (is_the n z)) (kids_as m far y.class y.number)) (λ y. one (is_the q.node y)) walked
        (all_every (λ y. total (λ z. one (is_the n z)) (kids_as m far y.class y.number) ≡ one (is_the q.node y)) (named_once n l) walked) in
        let k : q.node < node_count m = in_range_lem m q.node q.place q.entry q.stands in
        omega (arith, meets (λ z. one (is_the n z)), a, b, met_from h q.node k (omega (arith, q.higher, j))))
        (cases_eq n (root_of m))

    pub met : (n : ℕ) → n < node_count m → total (λ z. one (is_the n z)) walked ≡ 1
    met n i = met_from 8 n i (omega arith)

    numbered : All (λ x. opens x.class ≡ true → x.number < node_count m) walked
    numbered =
        All-weaker (Member m far) (λ x. opens x.class ≡ true → x.number < node_count m) (node_number m far acc shape.some_node) walked
        (members_below t (Member m far) (book_members m far acc mono) t.root (inl refl))

    -- a sum over the nodes met is that over all nodes
    sums : (f : ℕ → ℕ) → total (λ y. cond (opens y.class) (f y.number) 0) walked ≡ sum_below f (node_count m)
    sums f = each_once (λ x. opens x.class) (λ x. x.number) f (node_count m) walked numbered met

    pub nodes_met : length (nodes t) ≡ node_count m
    nodes_met =
        length-filter (λ x. opens x.class) walked ∙ count_by_total (λ x. opens x.class) walked ∙ sums (λ _. 1) ∙ sum_ones (node_count m)

    pub all_met : Alike walked (all_things m far)
    all_met f =
        let g : ℕ → ℕ = λ n. total f (things far (class_at (level_of m n)) (places_of m n)) in
        meets f
        ∙ ap (λ n. f (root_thing m) + n)
        (total_same (λ y. total f (kids_as m far y.class y.number)) (λ y. cond (opens y.class) (g y.number) 0) walked
        (all_every (λ y. total f (kids_as m far y.class y.number) ≡ cond (opens y.class) (g y.number) 0) (λ y. of f y.class y.number) walked)
        ∙ sums g ∙ sum_list (λ nd. total f (things_in far nd)) m.nodes no_node ∙ sym (total_joined f (things_in far) m.nodes))
      where
        of : (f : Thing → ℕ) (c : Class) (n : ℕ) → total f (kids_as m far c n) ≡ cond (opens c) (total f (things far (class_at (level_of m n)) (places_of m n))) 0
        of f Node n = refl
        of f Pick n = refl

    few_named : (nds : List book.Node) → length (flat_map (things_in far) nds) ≤ total (λ nd. length nd.places) nds
    few_named [] = omega arith
    few_named (nd ∷ nds) =
        omega (arith, length-append (things_in far nd) (flat_map (things_in far) nds), length_things far (class_at nd.level) nd.places, few_named nds)

    pub few_met : length walked ≤ 2049
    few_met =
        omega (arith, places_summed m.nodes, alike_length walked (all_things m far) all_met, few_named m.nodes, total_sum_by (λ nd. length nd.places) m.nodes, acc.few)
