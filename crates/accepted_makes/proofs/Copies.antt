-- An accepted book whose nodes stand in another book, behind what stands before them.
use Rattle.std.proofs.Common.{◌≡◌, ℕ, ◌+◌, ◌-◌, ◌<◌, ◌≤◌, Bool, true, false, cond, eqb, ltb, length, get_or, Some, sym, refl, ap, ◌∙◌, subst, ⊎_elim, arith, None}
use Rattle.std.proofs.Math.ListN.{get_or-map}
use Rattle.std.proofs.lemmas.Bool.{cond-true, lt-ltb, cases_lt}
use Rattle.book.specs.Model.{Model, Node, node_of, node_count, pick_limit, level_of, place_count, place_of}
use Rattle.book.specs.declared.place.Entry.{Entry}
use Rattle.geometry.specs.Within.{Within}
use Rattle.geometry.specs.declared.bounds.Bounds.{Bounds}
use Rattle.book_check.specs.Targets.{target_of}
use Rattle.book_check.specs.Accepted.{Stands, Names, InBook, Accepted}
use Rattle.book_check.specs.declared.target.Target.{Target}
use Rattle.book_check.specs.declared.target.Target.TheVariants.{Pick, Child}
use Rattle.book_check.proofs.Meaning.{Holds, names_in, one_place, child_at}
use Rattle.book_check.proofs.Naming.{place_there}
use Rattle.makes.specs.Join.{sizes_of, count_at, renumbered, renumbered_node, root_node, root_box}
use Rattle.makes.specs.declared.seam.Sizes.{Sizes}
use Rattle.makes.specs.Seams.{renumbered_count}
use Rattle.accepted_makes.proofs.Enough.{Below, same_entry}
use Rattle.accepted_makes.proofs.Roots.{root_some, root_holds}

-- what a target is called behind what stands before it
abbrev pub behind : Sizes → Target → Target
behind s (Pick p) = Pick (s.picks + p)
behind s (Child k) = Child (s.nodes + k)

moved_target : (c : Bool) (s : Sizes) (t : ℕ) → cond c (Pick (cond c s.picks s.nodes + t)) (Child (cond c s.picks s.nodes + t)) ≡ behind s (cond c (Pick t) (Child t))
moved_target true s t = refl
moved_target false s t = refl

own_number : (b : Model) (c : Bool) (t : ℕ) → InBook b (cond c (Pick t) (Child t)) → t < cond c (pick_limit b) (node_count b)
own_number b true t h = h
own_number b false t h = omega arith

child_of : (s : Sizes) (u : Target) (k : ℕ) → behind s u ≡ Child k → (c : ℕ) × (u ≡ Child c) × (s.nodes + c ≡ k)
child_of s (Pick p) k h = cc
child_of s (Child c) k h = (c, refl, cc)

behind_one : (s : Sizes) (u v : Target) → behind s u ≡ behind s v → u ≡ v
behind_one s (Pick p) (Pick q) h = let e : s.picks + p ≡ s.picks + q = cc in ap Pick (omega (arith, e))
behind_one s (Pick p) (Child k) h = cc
behind_one s (Child k) (Pick p) h = cc
behind_one s (Child k) (Child c) h = let e : s.nodes + k ≡ s.nodes + c = cc in ap Child (omega (arith, e))

module _ (m b : Model) (before : Sizes) (acc : Accepted b)
    (copy : (n : ℕ) → n < node_count b → node_of m (before.nodes + n) ≡ renumbered_node (sizes_of b) before (node_of b n)) where
  abbrev moved : ℕ → Entry → Entry
  moved n e = record { bounds = e.bounds; target = count_at before (level_of b n) + e.target }

  pub level_copied : (n : ℕ) → n < node_count b → level_of m (before.nodes + n) ≡ level_of b n
  level_copied n h = ap (λ (x : Node). x.level) (copy n h)

  pub count_copied : (n : ℕ) → n < node_count b → place_count m (before.nodes + n) ≡ place_count b n
  count_copied n h = ap (λ (x : Node). length x.places) (copy n h) ∙ renumbered_count (sizes_of b) before (node_of b n)

  place_copied : (n i : ℕ) → n < node_count b → place_of m (before.nodes + n) i ≡ renumbered (sizes_of b) before (level_of b n) (place_of b n i)
  place_copied n i h =
      ap (λ (x : Node). get_or x.places i None) (copy n h)
      ∙ get_or-map (renumbered (sizes_of b) before (level_of b n)) (node_of b n).places i None

  own : (n i : ℕ) (e : Entry) → Stands b n i e → e.target < count_at (sizes_of b) (level_of b n)
  own n i e s = own_number b (eqb (level_of b n) 0) e.target (names_in b acc n i (target_of b n e) (e, s, refl))

  forward : (n i : ℕ) (e : Entry) → n < node_count b → Stands b n i e → Stands m (before.nodes + n) i (moved n e)
  forward n i e h s =
      place_copied n i h
      ∙ ap (renumbered (sizes_of b) before (level_of b n)) s
      ∙ cond-true (ltb e.target (count_at (sizes_of b) (level_of b n))) (Some (moved n e)) None (lt-ltb _ _ (own n i e s))

  back : (n i : ℕ) (f : Entry) → n < node_count b → Stands m (before.nodes + n) i f → (e : Entry) × Stands b n i e × (moved n e ≡ f)
  back n i f h s =
      let r = acc.filled n i (omega (arith, place_there m (before.nodes + n) i f s, count_copied n h)) in
      (r.0, r.1, same_entry m (before.nodes + n) i (moved n r.0) f (forward n i r.0 h r.1) s)

  target_copied : (n : ℕ) (e : Entry) → n < node_count b → target_of m (before.nodes + n) (moved n e) ≡ behind before (target_of b n e)
  target_copied n e h =
      ap (λ v. cond (eqb v 0) (Pick (moved n e).target) (Child (moved n e).target)) (level_copied n h)
      ∙ moved_target (eqb (level_of b n) 0) before e.target

  pub names_copied : (n i : ℕ) (t : Target) → n < node_count b → Names b n i t → Names m (before.nodes + n) i (behind before t)
  names_copied n i t h (e, s, q) = (moved n e, forward n i e h s, target_copied n e h ∙ ap (behind before) q)

  pub names_back : (n i : ℕ) (u : Target) → n < node_count b → Names m (before.nodes + n) i u → (t : Target) × Names b n i t × (behind before t ≡ u)
  names_back n i u h (f, s, q) =
      let r = back n i f h s in
      (target_of b n r.0, (r.0, r.1, refl), sym (target_copied n r.0 h) ∙ ap (target_of m (before.nodes + n)) r.2 ∙ q)

  pub filled_copied : (n i : ℕ) → n < node_count b → i < place_count m (before.nodes + n) → (f : Entry) × (t : Target) × Stands m (before.nodes + n) i f × (target_of m (before.nodes + n) f ≡ behind before t) × InBook b t
  filled_copied n i h l =
      let r = acc.filled n i (omega (arith, count_copied n h)) in
      (moved n r.0, target_of b n r.0, forward n i r.0 h r.1, target_copied n r.0 h, r.2)

  pub below_copied : (n i : ℕ) (f : Entry) (k : ℕ) → n < node_count b → Stands m (before.nodes + n) i f → target_of m (before.nodes + n) f ≡ Child k → Below m (before.nodes + n) f k
  below_copied n i f k h s q =
      let r = back n i f h s in
      let e = r.0 in
      let u : behind before (target_of b n e) ≡ Child k = sym (target_copied n e h) ∙ ap (target_of m (before.nodes + n)) r.2 ∙ q in
      let c = child_of before (target_of b n e) k u in
      let x = child_at b acc n i c.0 e r.1 c.1 in
      let low : c.0 < node_count b = omega (arith, x.0) in
      let level : level_of m (before.nodes + c.0) + 1 ≡ level_of m (before.nodes + n) = omega (arith, level_copied c.0 low, level_copied n h, x.1) in
      let holds : Holds m e.bounds (before.nodes + c.0) = λ j g t.
      let y = back c.0 j g low t in subst (λ (z : Entry). Within z.bounds e.bounds) y.2 (x.2 j y.0 y.1) in (
        ap (λ z. level_of m z + 1) (sym c.2) ∙ level,
        subst (λ z. Holds m f.bounds z) c.2 (subst (λ (z : Entry). Holds m z.bounds (before.nodes + c.0)) r.2 holds),
      )

  pub only_copied : (t : Target) (n i k j : ℕ) → n < node_count b → k < node_count b → Names m (before.nodes + n) i t → Names m (before.nodes + k) j t → (before.nodes + n ≡ before.nodes + k) × (i ≡ j)
  only_copied t n i k j h g x y =
      let u = names_back n i t h x in
      let v = names_back k j t g y in
      let same : v.0 ≡ u.0 = behind_one before v.0 u.0 (v.2 ∙ sym u.2) in
      let r = one_place b acc u.0 n i k j u.1 (subst (Names b k j) same v.1) in
      (ap (λ z. before.nodes + z) r.0, r.1)

  -- ---- the root of the copied book, which has entries

  module _ (some : 0 < node_count b) (full : 0 < length (root_node b).places) where
    abbrev last : ℕ
    last = node_count b - 1

    last_in : last < node_count b
    last_in = omega arith

    stays : (i : ℕ) (f : Entry) → Stands m (before.nodes + last) i f → get_or (renumbered_node (sizes_of b) before (root_node b)).places i None ≡ Some f
    stays i f s = sym (ap (λ (x : Node). get_or x.places i None) (copy last last_in)) ∙ s

    stays_in : (i : ℕ) (f : Entry) → Stands m (before.nodes + last) i f → i < length (renumbered_node (sizes_of b) before (root_node b)).places
    stays_in i f s = omega (arith, place_there m (before.nodes + last) i f s, ap (λ (x : Node). length x.places) (copy last last_in))

    pub box_copied : (r : Bounds) × (root_box b ≡ Some r)
    box_copied =
        let x = filled_copied last 0 last_in (omega (arith, count_copied last last_in, full)) in
        root_some b before 0 x.0 (stays_in 0 x.0 x.2) (stays 0 x.0 x.2)

    pub holds_copied : (r : Bounds) → root_box b ≡ Some r → Holds m r (before.nodes + last)
    holds_copied r p i f s = root_holds b before r p i f (stays_in i f s) (stays i f s)

    pub peopled_copied : (n : ℕ) → n < node_count b → 0 < place_count m (before.nodes + n)
    peopled_copied n h =
        ⊎_elim (λ (l : n < last). omega (arith, count_copied n h, acc.peopled n l))
        (λ (l : last ≤ n).
        let e : last ≡ n = omega arith in
        omega (arith, count_copied n h, subst (λ z. 0 < place_count b z) e full))
        (cases_lt n last)
