-- The things of an accepted book are a tree: the root, and for each entry the node or pick that it names.
use Rattle.std.proofs.Common.{◌≡◌, ℕ, ◌+◌, ◌<◌, ◌≤◌, Bool, true, false, cond, eqb, ◌⊎◌, sym, refl, ap, ◌∙◌, subst, inl, inr, ⊎_elim, arith}
use Rattle.std.specs.List.{AllByRecursion as All}
use Rattle.std.proofs.lemmas.Bool.{true≢false, false≢true}
use Rattle.geometry.specs.Within.{Within}
use Rattle.book.specs.Model.{Model, node_count, level_of, places_of, place_of}
use Rattle.book.specs.declared.place.Entry.{Entry}
use Rattle.book_check.specs.declared.target.Target.TheVariants.{Pick as PickTarget, Child}
use Rattle.book_check.specs.Targets.{target_at, target_of, root_of}
use Rattle.book_check.specs.Accepted.{Accepted, Parent, Stands, InBook}
use Rattle.book_check.proofs.Naming.{place_there, node_there}
use Rattle.search.specs.Tree.{Tree, Sound}
use Rattle.search.proofs.Tree.{Members, Ordered}
use Rattle.browse.specs.declared.waiting.Class.{Class}
use Rattle.browse.specs.declared.waiting.Class.TheVariants.{Node, Pick}
use Rattle.browse.specs.Thing.{Thing, opens}
use Rattle.browse.specs.Tree.{Far, class_at, thing, kids_as, height_as, root_thing, tree_of}
use Rattle.browse.specs.Law.{Monotone, FitsWord, unlimited}
use Rattle.browse.proofs.Order.{thing_oneway, thing_chain, thing_nearest, thing_nodes, thing_same}
use Rattle.browse.proofs.Places.{Full, at_within, same_entry, all_things_lem}

pub two_classes : (c : Class) → (c ≡ Node) ⊎ (c ≡ Pick)
two_classes Node = inl refl
two_classes Pick = inr refl

pub opens_node : (c : Class) → opens c ≡ true → c ≡ Node
opens_node Node e = refl
opens_node Pick e = absurd (false≢true e)

node_pick : (c : Class) → c ≡ Node → c ≡ Pick → ⊥
node_pick c p q = true≢false (sym (ap opens p) ∙ ap opens q)

pub names_child : (level k : ℕ) → class_at level ≡ Node → target_at level k ≡ Child k
names_child level k = at (eqb level 0)
  where
    at : (b : Bool) → cond b Pick Node ≡ Node → cond b (PickTarget k) (Child k) ≡ Child k
    at true e = absurd (node_pick Pick e refl)
    at false e = refl

pub names_pick : (level k : ℕ) → class_at level ≡ Pick → target_at level k ≡ PickTarget k
names_pick level k = at (eqb level 0)
  where
    at : (b : Bool) → cond b Pick Node ≡ Pick → cond b (PickTarget k) (Child k) ≡ PickTarget k
    at true e = refl
    at false e = absurd (node_pick Node refl e)

-- the entry that names x
pub record Named (m : Model) (far : Far) (x : Thing) : Type 0 where
  pub node : ℕ
  pub place : ℕ
  pub entry : Entry
  pub stands : Stands m node place entry
  pub is : x ≡ thing far (class_at (level_of m node)) entry

abbrev pub Member : Model → Far → Thing → Type 0
Member m far x = (x ≡ root_thing m) ⊎ Named m far x

-- where an entry stands, there is a node
pub in_range_lem : (m : Model) (n i : ℕ) (e : Entry) → Stands m n i e → n < node_count m
in_range_lem m n i e s = node_there m n i (place_there m n i e s)

module _ (m : Model) (far : Far) (acc : Accepted m) where
  pub full : (n : ℕ) → Full (places_of m n)
  full n i l = let r = acc.filled n i l in (r.0, r.1)

  in_book_lem : (n i : ℕ) (e : Entry) → Stands m n i e → InBook m (target_of m n e)
  in_book_lem n i e s =
      let r = acc.filled n i (at_within (places_of m n) i e s) in
      subst (λ d. InBook m (target_of m n d)) (same_entry (place_of m n i) r.0 e r.1 s) r.2

  pub pick_in_book : (n i : ℕ) (e : Entry) → Stands m n i e → class_at (level_of m n) ≡ Pick → InBook m (PickTarget e.target)
  pick_in_book n i e s c = subst (InBook m) (names_pick (level_of m n) e.target c) (in_book_lem n i e s)

  pub child_in_book : (n i : ℕ) (e : Entry) → Stands m n i e → class_at (level_of m n) ≡ Node → e.target < root_of m
  child_in_book n i e s c = subst (InBook m) (names_child (level_of m n) e.target c) (in_book_lem n i e s)

  -- the entry that names a node
  module _ (n i : ℕ) (e : Entry) (s : Stands m n i e) (c : class_at (level_of m n) ≡ Node) where
    abbrev parent : Parent m e.target
    parent = acc.parent e.target (child_in_book n i e s c)

    here : (n ≡ parent.node) × (i ≡ parent.place)
    here = parent.only n i (e, s, names_child (level_of m n) e.target c)

    pub child_lower : level_of m e.target + 1 ≡ level_of m n
    child_lower = parent.higher ∙ ap (level_of m) (sym here.0)

    the_entry : parent.entry ≡ e
    the_entry =
        same_entry (place_of m n i) parent.entry e ((λ j. place_of m (here.0 j) (here.1 j)) ∙ parent.stands) s

    pub child_within : (j : ℕ) (d : Entry) → Stands m e.target j d → Within d.bounds e.bounds
    child_within j d k = subst (λ z. Within d.bounds z.bounds) the_entry (parent.contains j d k)

  -- two places do not name one node, nor one pick
  same_place : (n i k j : ℕ) (d e : Entry) → Stands m n i d → Stands m k j e → class_at (level_of m n) ≡ class_at (level_of m k) → d.target ≡ e.target →
      (n ≡ k) × (i ≡ j)
  same_place n i k j d e s u c t =
      ⊎_elim
      (λ a.
      let p = acc.parent d.target (child_in_book n i d s a) in
      let x = p.only n i (d, s, names_child (level_of m n) d.target a) in
      let y = p.only k j (e, u, names_child (level_of m k) e.target (sym c ∙ a) ∙ ap Child (sym t)) in
      (x.0 ∙ sym y.0, x.1 ∙ sym y.1))
      (λ a.
      acc.once d.target n i k j (d, s, names_pick (level_of m n) d.target a)
      (e, u, names_pick (level_of m k) e.target (sym c ∙ a) ∙ ap PickTarget (sym t)))
      (two_classes (class_at (level_of m n)))

  named_same : (x y : Thing) → Named m far x → Named m far y → x.class ≡ y.class → x.number ≡ y.number → x ≡ y
  named_same x y p q c t =
      let a = p.is in
      let b = q.is in
      let r =
      same_place p.node p.place q.node q.place p.entry q.entry p.stands q.stands
      (sym (ap (λ z. z.class) a) ∙ c ∙ ap (λ z. z.class) b) (sym (ap (λ z. z.number) a) ∙ t ∙ ap (λ z. z.number) b) in
      let e : p.entry ≡ q.entry =
      same_entry (place_of m p.node p.place) p.entry q.entry p.stands ((λ j. place_of m (r.0 j) (r.1 j)) ∙ q.stands) in
      a ∙ (λ j. thing far (class_at (level_of m (r.0 j))) (e j)) ∙ sym b

  -- no entry names the root
  not_root : (x y : Thing) → x ≡ root_thing m → Named m far y → x.class ≡ y.class → x.number ≡ y.number → ⊥
  not_root x y r q c t =
      let k : class_at (level_of m q.node) ≡ Node = sym (ap (λ z. z.class) q.is) ∙ sym c ∙ ap (λ z. z.class) r in
      let l = child_in_book q.node q.place q.entry q.stands k in
      let a : x.number ≡ root_of m = ap (λ z. z.number) r in
      let b : y.number ≡ q.entry.target = ap (λ z. z.number) q.is in
      omega (arith, l, a, b, t)

  member_same : (x y : Thing) → Member m far x → Member m far y → x.class ≡ y.class → x.number ≡ y.number → x ≡ y
  member_same x y p q c t =
      ⊎_elim (λ r. ⊎_elim (λ s. r ∙ sym s) (λ s. absurd (not_root x y r s c t)) q)
      (λ r. ⊎_elim (λ s. absurd (not_root y x s r (sym c) (sym t))) (λ s. named_same x y r s c t) q) p

  pub book_ordered : Ordered (tree_of m far) (Member m far)
  book_ordered =
      record {
        oneway = thing_oneway;
        chain = thing_chain;
        same = λ x y p q h k. let r = thing_same x y h k in member_same x y p q r.0 r.1;
        nearest_first = thing_nearest;
        nodes_first = thing_nodes;
      }

  -- no entry is nearer than its node
  pub outward : Monotone far → (x : Thing) → Member m far x → x.class ≡ Node → (j : ℕ) (e : Entry) → Stands m x.number j e → x.distance ≤ far e.bounds
  outward mono x p c j e s =
      ⊎_elim (λ r. let z : x.distance ≡ 0 = ap (λ z. z.distance) r in omega (arith, z))
      (λ q.
      let d : x.distance ≡ far q.entry.bounds = ap (λ z. z.distance) q.is in
      let k : x.number ≡ q.entry.target = ap (λ z. z.number) q.is in
      let w =
      child_within q.node q.place q.entry q.stands (sym (ap (λ z. z.class) q.is) ∙ c) j e (subst (λ n. Stands m n j e) k s) in
      omega (arith, mono q.entry.bounds e.bounds w, d))
      p

  -- each kid is lower
  pub lower : (n j : ℕ) (e : Entry) → Stands m n j e → height_as m (class_at (level_of m n)) e.target < level_of m n + 1
  lower n j e s =
      ⊎_elim (λ c. subst (λ k. height_as m k e.target < level_of m n + 1) (sym c) (omega (arith, child_lower n j e s c)))
      (λ c. subst (λ k. height_as m k e.target < level_of m n + 1) (sym c) (omega arith)) (two_classes (class_at (level_of m n)))

  module _ (mono : Monotone far) where
    abbrev t : Tree Thing
    t = tree_of m far

    book_sound : (x : Thing) → Member m far x → Sound t x
    book_sound x p =
        ⊎_elim
        (λ c.
        let k = class_at (level_of m x.number) in
        let ps = places_of m x.number in
        record {
          outward = subst (λ z. All (λ y. x.distance ≤ y.distance) (kids_as m far z x.number)) (sym c)
              (all_things_lem far k (λ y. x.distance ≤ y.distance) ps (outward mono x p c));
          lower = subst (λ z. All (λ y. height_as m y.class y.number < height_as m z x.number) (kids_as m far z x.number)) (sym c)
              (all_things_lem far k (λ y. height_as m y.class y.number < level_of m x.number + 1) ps (lower x.number));
          ends = λ e. absurd (true≢false (sym (ap opens c) ∙ e));
        })
        (λ c.
        record {
          outward = subst (λ z. All (λ y. x.distance ≤ y.distance) (kids_as m far z x.number)) (sym c) tt;
          lower = subst (λ z. All (λ y. height_as m y.class y.number < height_as m z x.number) (kids_as m far z x.number)) (sym c) tt;
          ends = λ _. ap (λ z. kids_as m far z x.number) c;
        })
        (two_classes x.class)

    book_kids : (x : Thing) → All (Member m far) (kids_as m far x.class x.number)
    book_kids x = at x.class
      where
        at : (c : Class) → All (Member m far) (kids_as m far c x.number)
        at Node =
            all_things_lem far (class_at (level_of m x.number)) (Member m far) (places_of m x.number)
            (λ j e s. inr (record { node = x.number; place = j; entry = e; stands = s; is = refl }))
        at Pick = tt

    pub book_members : Members t (Member m far)
    book_members = record { root = inl refl; sound = book_sound; kids = λ x _. book_kids x }

  pub node_number : 0 < node_count m → (x : Thing) → Member m far x → opens x.class ≡ true → x.number < node_count m
  node_number some x p o =
      ⊎_elim (λ r. let z : x.number ≡ root_of m = ap (λ z. z.number) r in omega (arith, some, z))
      (λ q.
      let z : x.number ≡ q.entry.target = ap (λ z. z.number) q.is in
      let c : class_at (level_of m q.node) ≡ Node = sym (ap (λ z. z.class) q.is) ∙ opens_node x.class o in
      omega (arith, child_in_book q.node q.place q.entry q.stands c, z))
      p

  pub in_reach : FitsWord far → (x : Thing) → Member m far x → x.distance ≤ unlimited
  in_reach fits x p =
      ⊎_elim (λ r. let z : x.distance ≡ 0 = ap (λ z. z.distance) r in omega (arith, z))
      (λ q. let d : x.distance ≡ far q.entry.bounds = ap (λ z. z.distance) q.is in omega (arith, fits q.entry.bounds, d))
      p
