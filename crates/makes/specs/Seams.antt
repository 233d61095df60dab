-- What a joined book answers, from what the join keeps.
use Rattle.std.specs.Prelude.{◌≡◌, ℕ, zero, suc, ◌+◌, ◌-◌, ◌<◌, ◌≤◌, true, false, ltb, [], ◌∷◌, ◌++◌, map, length, get_or, Some, None, Option, MatchOption, ◌==◌, nat_lt, slice_index_or, refl}
use Rattle.std.proofs.Math.Path.{sym, ap}
use Rattle.std.proofs.Common.{◌∙◌, ⊎_elim, arith, length-append}
use Rattle.std.proofs.Math.ListN
use Rattle.std.specs.List.{range_with_len}
use Rattle.std.proofs.lemmas.List.FromFn.{length-map-range_with_len, get_or-map-range_with_len}
use Rattle.std.proofs.lemmas.List.{get_or_past, get_or_append_left, get_or-append_right, get_or_at, get_or-map, length-map}
use Rattle.std.proofs.lemmas.Option.{none-some}
use Rattle.std.proofs.lemmas.Bool.{cases_Bool, cond-true, cond-false, cond_both, ltb-true, ltb-false, eqb-true, eqb-false}
use Rattle.book.specs.Model.{Node, Model, BookShape, no_node, node_of, node_count, pick_limit, level_of, place_count, place_of, kind_of, empty_book}
use Rattle.book.specs.declared.kind.Kind.{Kind}
use Rattle.book.specs.declared.kind.Kind.TheVariants.{Marker}
use Rattle.book.specs.declared.place.Entry.{Entry}
use Rattle.makes.specs.Join.{nothing, count_at, renumbered, renumbered_node}
use Rattle.makes.specs.Seam.{part_of, part_node, seam_root, known, along}
use Rattle.makes.specs.declared.seam.Sizes.{Sizes}
use Rattle.makes.specs.declared.seam.Seam.{Seam}
use Rattle.makes.specs.declared.seam.Part.{Part}
use Rattle.makes.specs.declared.seam.Part.TheVariants.{Left, Right, Root, Outside}
use Rattle.makes.specs.Shapes.{shape_by, target_named}

empty_node : (n : ℕ) → node_of empty_book n ≡ no_node
empty_node zero = refl
empty_node (suc n) = refl

module _ (s : Seam) (l r : Model) where
  pub seam_count : node_count (along (Some s) l r) ≡ s.left.nodes + s.right.nodes + 1
  unfolding along
  seam_count = simp (length-append, length-map-range_with_len) (omega arith)

  pub seam_picks : pick_limit (along (Some s) l r) ≡ s.left.picks + s.right.picks
  unfolding along
  seam_picks = simp (length-append, length-map-range_with_len)

  left_node : (n : ℕ) → n < s.left.nodes → node_of (along (Some s) l r) n ≡ part_node s l r (Left n)
  unfolding along
  left_node n h =
      let f : ℕ → Node = λ k. part_node s l r (Left k) in
      get_or_append_left (map f (range_with_len 0 s.left.nodes)) _ no_node n (simp length-map-range_with_len h)
      ∙ get_or-map-range_with_len f 0 s.left.nodes n n no_node h (omega arith)

  past_left : (n : ℕ) → s.left.nodes ≤ n → node_of (along (Some s) l r) n ≡ slice_index_or (map (λ k. part_node s l r (Right k)) (range_with_len 0 s.right.nodes) ++ (seam_root s ∷ [])) (n - s.left.nodes) no_node
  unfolding along
  past_left n h = get_or-append_right (map (λ k. part_node s l r (Left k)) (range_with_len 0 s.left.nodes)) _ s.left.nodes n no_node (length-map-range_with_len _ 0 s.left.nodes) h

  right_node : (n : ℕ) → s.left.nodes ≤ n → n - s.left.nodes < s.right.nodes → node_of (along (Some s) l r) n ≡ part_node s l r (Right (n - s.left.nodes))
  right_node n h k =
      let f : ℕ → Node = λ k. part_node s l r (Right k) in
      past_left n h
      ∙ get_or_append_left (map f (range_with_len 0 s.right.nodes)) _ no_node (n - s.left.nodes) (simp length-map-range_with_len k)
      ∙ get_or-map-range_with_len f 0 s.right.nodes (n - s.left.nodes) (n - s.left.nodes) no_node k (omega arith)

  root_node_is : (n : ℕ) → s.left.nodes ≤ n → n - s.left.nodes ≡ s.right.nodes → node_of (along (Some s) l r) n ≡ seam_root s
  root_node_is n h e =
      past_left n h
      ∙ get_or_at (map (λ k. part_node s l r (Right k)) (range_with_len 0 s.right.nodes)) (seam_root s) [] no_node (n - s.left.nodes) (length-map-range_with_len _ 0 s.right.nodes ∙ sym e)

  outside_node : (n : ℕ) → s.left.nodes + s.right.nodes < n → node_of (along (Some s) l r) n ≡ no_node
  outside_node n h = get_or_past (along (Some s) l r).nodes n no_node (omega (arith, seam_count))

  -- each node comes from where the code says
  pub part_node_lem : (n : ℕ) → node_of (along (Some s) l r) n ≡ part_node s l r (part_of s n)
  part_node_lem n =
      let P : Part → Type 0 = λ p. node_of (along (Some s) l r) n ≡ part_node s l r p in
      cond_both (nat_lt n s.left.nodes) (Left n) _ P (λ e. left_node n (ltb-true _ _ e))
      (λ e.
      let h : s.left.nodes ≤ n = ltb-false _ _ e in
      cond_both (nat_lt (n - s.left.nodes) s.right.nodes) (Right (n - s.left.nodes)) _ P
      (λ f. right_node n h (ltb-true _ _ f))
      (λ f.
      let k : s.right.nodes ≤ n - s.left.nodes = ltb-false _ _ f in
      cond_both (n - s.left.nodes == s.right.nodes) Root Outside P
      (λ i. root_node_is n h (eqb-true _ _ i))
      (λ i. let ne = eqb-false (n - s.left.nodes) s.right.nodes i in outside_node n (omega (arith, ne)))))

  kinds_left : (p : ℕ) → p < s.left.picks → kind_of (along (Some s) l r) p ≡ Some (known (kind_of l p))
  unfolding along
  kinds_left p h =
      let f : ℕ → Kind = λ k. known (kind_of l k) in
      let first = map f (range_with_len 0 s.left.picks) in
      let long : p < length first = simp length-map-range_with_len h in
      get_or-map Some (along (Some s) l r).kinds p Marker None (omega (arith, seam_picks))
      ∙ ap Some (get_or_append_left first _ Marker p long ∙ get_or-map-range_with_len f 0 s.left.picks p p Marker h (omega arith))

  kinds_right : (p : ℕ) → s.left.picks ≤ p → p - s.left.picks < s.right.picks → kind_of (along (Some s) l r) p ≡ Some (known (kind_of r (p - s.left.picks)))
  unfolding along
  kinds_right p h k =
      let f : ℕ → Kind = λ k. known (kind_of r k) in
      get_or-map Some (along (Some s) l r).kinds p Marker None (omega (arith, seam_picks))
      ∙ ap Some
      (get_or-append_right (map (λ k. known (kind_of l k)) (range_with_len 0 s.left.picks)) _ s.left.picks p Marker (length-map-range_with_len _ 0 s.left.picks) h
      ∙ get_or-map-range_with_len f 0 s.right.picks (p - s.left.picks) (p - s.left.picks) Marker k (omega arith))

  kinds_past : (p : ℕ) → s.left.picks + s.right.picks ≤ p → kind_of (along (Some s) l r) p ≡ None
  kinds_past p h = get_or_past (map Some (along (Some s) l r).kinds) p None (simp length-map (omega (arith, seam_picks)))

-- what a join answers is known from what is known with a seam and without one
pub joined_by : {V : Type 0} (held : Option Seam) (l r : Model) (answer : Model → V) (v : V) (P : Type 0) (Q : Seam → Type 0) → MatchOption held P Q → (P → v ≡ answer empty_book) → ((s : Seam) → Q s → v ≡ answer (along (Some s) l r)) → v ≡ answer (along held l r)
unfolding along
joined_by (Some s) l r answer v P Q m none some = some s m
joined_by None l r answer v P Q m none some = none m

pub level_at_part : (s : Seam) (l r : Model) (n v : ℕ) → v ≡ (part_node s l r (part_of s n)).level → v ≡ level_of (along (Some s) l r) n
level_at_part s l r n v e = e ∙ sym (ap (λ (k : Node). k.level) (part_node_lem s l r n))

-- the places of a renumbered node
pub renumbered_count : (own before : Sizes) (n : Node) → length (renumbered_node own before n).places ≡ length n.places
renumbered_count own before n = length-map n.places (renumbered own before n.level)

-- how many places a node has where it comes from
abbrev pub part_count : Model → Model → Part → ℕ
part_count l r (Left k) = place_count l k
part_count l r (Right k) = place_count r k
part_count l r Root = 2
part_count l r Outside = 0

part_counts : (s : Seam) (l r : Model) (x : Part) → length (part_node s l r x).places ≡ part_count l r x
part_counts s l r (Left k) = renumbered_count s.left nothing (node_of l k)
part_counts s l r (Right k) = renumbered_count s.right s.left (node_of r k)
part_counts s l r Root = refl
part_counts s l r Outside = refl

pub count_at_part : (s : Seam) (l r : Model) (n v : ℕ) → v ≡ part_count l r (part_of s n) → v ≡ place_count (along (Some s) l r) n
count_at_part s l r n v e = e ∙ sym (ap (λ (k : Node). length k.places) (part_node_lem s l r n) ∙ part_counts s l r (part_of s n))

-- the same, of what a join holds
module _ (held : Option Seam) (l r : Model) where
  pub node_at : (s : Seam) (p : Part) (n : ℕ) → held ≡ Some s → p ≡ part_of s n → node_of (along held l r) n ≡ part_node s l r p
  node_at s p n e f = ap (λ o. node_of (along o l r) n) e ∙ part_node_lem s l r n ∙ ap (part_node s l r) (sym f)

  pub node_none : (n : ℕ) → held ≡ None → node_of (along held l r) n ≡ no_node
  unfolding along
  node_none n e = ap (λ o. node_of (along o l r) n) e ∙ empty_node n

  pub kind_none : (p : ℕ) → held ≡ None → None ≡ kind_of (along held l r) p
  unfolding along
  kind_none p e = sym (ap (λ o. kind_of (along o l r) p) e)

  pub kind_left : (s : Seam) (p : ℕ) (k : Kind) (o : Option Kind) → held ≡ Some s → p < s.left.picks → k ≡ known o → o ≡ kind_of l p → Some k ≡ kind_of (along held l r) p
  kind_left s p k o e h q w =
      ap Some (q ∙ ap known w) ∙ sym (ap (λ o. kind_of (along o l r) p) e ∙ kinds_left s l r p h)

  pub kind_right : (s : Seam) (p : ℕ) (k : Kind) (o : Option Kind) → held ≡ Some s → s.left.picks ≤ p → p - s.left.picks < s.right.picks → k ≡ known o → o ≡ kind_of r (p - s.left.picks) → Some k ≡ kind_of (along held l r) p
  kind_right s p k o e h i q w =
      ap Some (q ∙ ap known w) ∙ sym (ap (λ o. kind_of (along o l r) p) e ∙ kinds_right s l r p h i)

  pub kind_past : (s : Seam) (p : ℕ) → held ≡ Some s → s.left.picks ≤ p → s.right.picks ≤ p - s.left.picks → None ≡ kind_of (along held l r) p
  kind_past s p e h i = sym (ap (λ o. kind_of (along o l r) p) e ∙ kinds_past s l r p (omega arith))

pub renumbered_at : (own before : Sizes) (m : Model) (n i level : ℕ) (was became : Option Entry) → became ≡ renumbered own before level was → level ≡ level_of m n → was ≡ place_of m n i → became ≡ slice_index_or (renumbered_node own before (node_of m n)).places i None
renumbered_at own before m n i level was became e p q =
    e ∙ ap (λ v. renumbered own before v was) p ∙ ap (renumbered own before (level_of m n)) q
    ∙ sym (ListN.get_or-map (renumbered own before (level_of m n)) (node_of m n).places i None)

module _ (s : Seam) (l r : Model) (p : BookShape l) (q : BookShape r) where
  low_part : (x : Part) → (part_node s l r x).level ≤ 7
  low_part (Left k) = p.levels_most k
  low_part (Right k) = q.levels_most k
  low_part Root = s.low
  low_part Outside = omega arith

  few_part : (x : Part) → length (part_node s l r x).places ≤ 16
  few_part (Left k) = omega (arith, part_counts s l r (Left k), p.places_most k)
  few_part (Right k) = omega (arith, part_counts s l r (Right k), q.places_most k)
  few_part Root = omega arith
  few_part Outside = omega arith

-- a renumbered target is below what stands before and what it could name
target_renumbered : (own before : Sizes) (level most : ℕ) → count_at before level + count_at own level ≤ most → (was : Option Entry) (e : Entry) → renumbered own before level was ≡ Some e → e.target < most
target_renumbered own before level most h (Some f) e t =
    ⊎_elim
    (λ (y : ltb f.target (count_at own level) ≡ true).
    let made : Some (record { bounds = f.bounds; target = count_at before level + f.target }) ≡ Some e = sym (cond-true _ _ _ y) ∙ t in
    let same : count_at before level + f.target ≡ e.target = cc in
    omega (arith, ltb-true f.target (count_at own level) y, same))
    (λ (y : ltb f.target (count_at own level) ≡ false).
    absurd (none-some e (sym (cond-false _ _ _ y) ∙ t)))
    (cases_Bool (nat_lt f.target (count_at own level)))
target_renumbered own before level most h None e t = absurd (none-some e t)

count_most : (z : Sizes) (level : ℕ) → z.picks ≤ 2048 → z.nodes ≤ 512 → count_at z level ≤ 2048
count_most z level p n =
    let P : ℕ → Type 0 = λ k. k ≤ 2048 in
    cond_both (level == 0) z.picks z.nodes P (λ e. p) (λ e. omega arith)

module _ (s : Seam) (l r : Model) where
  target_part : (x : Part) (i : ℕ) (e : Entry) → slice_index_or (part_node s l r x).places i None ≡ Some e → e.target < 65536
  target_part (Left k) i e t =
      let level = level_of l k in
      target_renumbered s.left nothing level 65536
      (omega (arith, count_most nothing level (omega arith) (omega arith), count_most s.left level (omega (arith, s.picks)) (omega (arith, s.nodes))))
      (place_of l k i) e (sym (ListN.get_or-map (renumbered s.left nothing level) (node_of l k).places i None) ∙ t)
  target_part (Right k) i e t =
      let level = level_of r k in
      target_renumbered s.right s.left level 65536
      (omega (arith, count_most s.right level (omega (arith, s.picks)) (omega (arith, s.nodes)), count_most s.left level (omega (arith, s.picks)) (omega (arith, s.nodes))))
      (place_of r k i) e (sym (ListN.get_or-map (renumbered s.right s.left level) (node_of r k).places i None) ∙ t)
  target_part Root zero e t = target_named (s.left.nodes - 1) 65536 s.left_box e (omega (arith, s.nodes)) t
  target_part Root (suc zero) e t = target_named (s.left.nodes + s.right.nodes - 1) 65536 s.right_box e (omega (arith, s.nodes)) t
  target_part Root (suc (suc i)) e t = absurd (none-some e t)
  target_part Outside i e t = absurd (none-some e t)

pub shape_empty : BookShape empty_book
shape_empty =
    shape_by empty_book (omega arith) (omega arith) (omega arith)
    (λ n. omega (arith, ap (λ (k : Node). k.level) (empty_node n)))
    (λ n. omega (arith, ap (λ (k : Node). length k.places) (empty_node n)))
    (λ n i e t. absurd (none-some e (sym (ap (λ (k : Node). get_or k.places i None) (empty_node n)) ∙ t)))

-- a joined book has a book's shape, by what the join keeps
pub shape_along : (held : Option Seam) (l r : Model) → BookShape l → BookShape r → BookShape (along held l r)
unfolding along
shape_along (Some s) l r p q =
    shape_by (along (Some s) l r)
    (omega (arith, seam_count s l r))
    (omega (arith, seam_count s l r, s.nodes))
    (omega (arith, seam_picks s l r, s.picks))
    (λ n. omega (arith, ap (λ (k : Node). k.level) (part_node_lem s l r n), low_part s l r p q (part_of s n)))
    (λ n. omega (arith, ap (λ (k : Node). length k.places) (part_node_lem s l r n), few_part s l r p q (part_of s n)))
    (λ n i e t. target_part s l r (part_of s n) i e (sym (ap (λ (k : Node). get_or k.places i None) (part_node_lem s l r n)) ∙ t))
shape_along None l r p q = shape_empty
