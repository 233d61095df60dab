-- The box of a root that has entries, and the nodes of a joined book.
use Rattle.std.proofs.Common.{◌≡◌, ℕ, ◌+◌, ◌-◌, ◌<◌, ◌≤◌, Bool, true, false, cond, not, ◌||◌, eqb, ltb, List, [], ◌∷◌, ◌++◌, map, length, get_or, Some, None, Ok, Err, Option, sym, refl, ap, ◌∙◌, subst, ⊎_elim, zero-add, arith, length-append}
use Rattle.std.proofs.Math.ListN
use Rattle.std.proofs.Math.ListN.{length-map}
use Rattle.std.proofs.ByRecursion.{All-get_or}
use Rattle.std.proofs.lemmas.List.{get_or_past, get_or_append_left, get_or-append-add, get_or_at, get_or-map}
use Rattle.std.proofs.lemmas.Bool.{not-false, eqb-true, eqb-false, or_parts, cases_lt}
use Rattle.refusal.specs.Told.{plain}
use Rattle.book.specs.Model.{Model, Node, no_node, node_of, node_count, pick_limit}
use Rattle.book.specs.declared.place.Entry.{Entry}
use Rattle.geometry.specs.Within.{Within}
use Rattle.geometry.specs.declared.bounds.Bounds.{Bounds}
use Rattle.book.specs.Totals.{places_in, total_places}
use Rattle.book.proofs.Places.{places_in_append}
use Rattle.makes.specs.Join.{sizes_of, nothing, count_at, renumbered, renumbered_node, root_node, root_boxes, root_box, new_root, both_books, root_empty, roots_apart, joinable, joined}
use Rattle.makes.specs.Smallest.{smallest, box_of, LiesIn, IsSmallest}
use Rattle.makes.specs.declared.seam.Sizes.{Sizes}
use Rattle.makes.proofs.Fits.{not_refused}
use Rattle.makes.specs.Seams.{renumbered_count}
use Rattle.makes.specs.Smallests.{smallest_is}

-- ---- the smallest box around boxes of which there is one

some_smallest : (bs : List (Option Bounds)) (o : Option Bounds) → IsSmallest bs o → (i : ℕ) (b : Bounds) → i < length bs → get_or bs i None ≡ Some b → (r : Bounds) × (o ≡ Some r)
some_smallest bs (Some r) s i b h e = (r, refl)
some_smallest bs None s i b h e =
    let none = All-get_or (λ o. o ≡ None) bs i None h s in
    cc

pub smallest_some : (bs : List (Option Bounds)) (i : ℕ) (b : Bounds) → i < length bs → get_or bs i None ≡ Some b → (r : Bounds) × (smallest bs ≡ Some r)
smallest_some bs = some_smallest bs (smallest bs) (smallest_is bs)

pub in_smallest : (bs : List (Option Bounds)) (r : Bounds) → smallest bs ≡ Some r → (i : ℕ) (b : Bounds) → i < length bs → get_or bs i None ≡ Some b → Within b r
in_smallest bs r e i b h q =
    let s : IsSmallest bs (Some r) = subst (IsSmallest bs) e (smallest_is bs) in
    subst (LiesIn r) q (All-get_or (LiesIn r) bs i None h s.0)

-- a box is kept whatever stands before its book
box_kept : (own before : Sizes) (level : ℕ) (p : Option Entry) → box_of (renumbered own before level p) ≡ box_of (renumbered own nothing level p)
box_kept own before level (Some e) = on (ltb e.target (count_at own level))
  where
    on : (c : Bool) → box_of (cond c (Some (record { bounds = e.bounds; target = count_at before level + e.target })) None) ≡ box_of (cond c (Some (record { bounds = e.bounds; target = count_at nothing level + e.target })) None)
    on true = refl
    on false = refl
box_kept own before level None = refl

module _ (m : Model) (before : Sizes) where
  abbrev copied : List (Option Entry)
  copied = (renumbered_node (sizes_of m) before (root_node m)).places

  boxes_count : length (root_boxes m) ≡ length copied
  boxes_count = simp length-map

  box_at_lem : (i : ℕ) → get_or (root_boxes m) i None ≡ box_of (get_or copied i None)
  box_at_lem i =
      let f = renumbered (sizes_of m) nothing (root_node m).level in
      let g = renumbered (sizes_of m) before (root_node m).level in
      ListN.get_or-map box_of (map f (root_node m).places) i None
      ∙ ap box_of (ListN.get_or-map f (root_node m).places i None)
      ∙ sym (box_kept (sizes_of m) before (root_node m).level (get_or (root_node m).places i None))
      ∙ ap box_of (sym (ListN.get_or-map g (root_node m).places i None))

  -- an entry that stays in the root, wherever its book goes
  pub root_some : (i : ℕ) (e : Entry) → i < length copied → get_or copied i None ≡ Some e → (r : Bounds) × (root_box m ≡ Some r)
  root_some i e h s = smallest_some (root_boxes m) i e.bounds (omega (arith, boxes_count)) (box_at_lem i ∙ ap box_of s)

  pub root_holds : (r : Bounds) → root_box m ≡ Some r → (i : ℕ) (e : Entry) → i < length copied → get_or copied i None ≡ Some e → Within e.bounds r
  root_holds r p i e h s = in_smallest (root_boxes m) r p i e.bounds (omega (arith, boxes_count)) (box_at_lem i ∙ ap box_of s)

-- ---- two books that fit

pub record Joinable (l r : Model) : Type 0 where
  pub level : (root_node l).level ≡ (root_node r).level
  pub left_some : 0 < length (root_node l).places
  pub right_some : 0 < length (root_node r).places

pub joinable_says : (l r : Model) → joinable l r ≡ Ok tt → Joinable l r
joinable_says l r e =
    let a = not_refused (ltb 512 (node_count l + node_count r + 1)) (plain 8) _ e in
    let b = not_refused (ltb 2048 (pick_limit l + pick_limit r)) (plain 9) _ a.1 in
    let c = not_refused (roots_apart l r) (plain 10) (cond (root_empty l || root_empty r) (Err (plain 11)) (Ok tt)) b.1 in
    let d = not_refused (root_empty l || root_empty r) (plain 11) (Ok tt) c.1 in
    let v = or_parts (not (eqb (root_node l).level (root_node r).level)) (eqb (root_node l).level 7) c.0 in
    let w = or_parts (root_empty l) (root_empty r) d.0 in
    let x = eqb-false (length (root_node l).places) 0 w.0 in
    let y = eqb-false (length (root_node r).places) 0 w.1 in
    record { level = eqb-true _ _ (not-false (eqb (root_node l).level (root_node r).level) v.0); left_some = omega (arith, x); right_some = omega (arith, y) }

pub joined_both : (l r : Model) → joinable l r ≡ Ok tt → both_books l r ≡ joined l r
unfolding joined
joined_both l r e = rw e

-- ---- the nodes of both books

module _ (l r : Model) where
  abbrev lefts : List Node
  lefts = map (renumbered_node (sizes_of l) nothing) l.nodes

  abbrev rights : List Node
  rights = map (renumbered_node (sizes_of r) (sizes_of l)) r.nodes

  lefts_count : length lefts ≡ node_count l
  lefts_count = length-map l.nodes (renumbered_node (sizes_of l) nothing)

  rights_count : length rights ≡ node_count r
  rights_count = length-map r.nodes (renumbered_node (sizes_of r) (sizes_of l))

  pub both_count : node_count (both_books l r) ≡ node_count l + node_count r + 1
  both_count = simp (length-append, length-map) (omega arith)

  pub both_picks : pick_limit (both_books l r) ≡ pick_limit l + pick_limit r
  both_picks = simp length-append

  pub left_node : (n : ℕ) → n < node_count l → node_of (both_books l r) (0 + n) ≡ renumbered_node (sizes_of l) nothing (node_of l n)
  left_node n h =
      ap (node_of (both_books l r)) (zero-add n)
      ∙ get_or_append_left lefts (rights ++ (new_root l r ∷ [])) no_node n (omega (arith, lefts_count))
      ∙ get_or-map (renumbered_node (sizes_of l) nothing) l.nodes n no_node no_node h

  past_left : (n : ℕ) → node_of (both_books l r) (node_count l + n) ≡ get_or (rights ++ (new_root l r ∷ [])) n no_node
  past_left n =
      ap (λ k. node_of (both_books l r) (k + n)) (sym lefts_count)
      ∙ get_or-append-add lefts (rights ++ (new_root l r ∷ [])) n no_node

  pub right_node : (n : ℕ) → n < node_count r → node_of (both_books l r) (node_count l + n) ≡ renumbered_node (sizes_of r) (sizes_of l) (node_of r n)
  right_node n h =
      past_left n
      ∙ get_or_append_left rights (new_root l r ∷ []) no_node n (omega (arith, rights_count))
      ∙ get_or-map (renumbered_node (sizes_of r) (sizes_of l)) r.nodes n no_node no_node h

  pub root_node_is : node_of (both_books l r) (node_count l + node_count r) ≡ new_root l r
  root_node_is = past_left (node_count r) ∙ get_or_at rights (new_root l r) [] no_node (node_count r) rights_count

  pub past_node : (n : ℕ) → node_count l + node_count r < n → node_of (both_books l r) n ≡ no_node
  past_node n h = get_or_past (both_books l r).nodes n no_node (omega (arith, both_count))

  -- left, right, the root, or nowhere
  pub by_node : (P : ℕ → Type 0) → ((n : ℕ) → n < node_count l → P (0 + n)) → ((n : ℕ) → n < node_count r → P (node_count l + n)) → P (node_count l + node_count r) → ((n : ℕ) → node_count l + node_count r < n → P n) → (n : ℕ) → P n
  by_node P left right root past n =
      ⊎_elim (λ (h : n < node_count l). subst P (zero-add n) (left n h))
      (λ (h : node_count l ≤ n).
      let back : node_count l + (n - node_count l) ≡ n = omega arith in
      ⊎_elim (λ (k : n - node_count l < node_count r). subst P back (right (n - node_count l) k))
      (λ (k : node_count r ≤ n - node_count l).
      ⊎_elim (λ (j : node_count l + node_count r < n). past n j)
      (λ (j : n ≤ node_count l + node_count r). subst P (let e : node_count l + node_count r ≡ n = omega arith in e) root)
      (cases_lt (node_count l + node_count r) n))
      (cases_lt (n - node_count l) (node_count r)))
      (cases_lt n (node_count l))

-- ---- the places of both books

copied_total : (own before : Sizes) (ns : List Node) → places_in (map (renumbered_node own before) ns) ≡ places_in ns
copied_total own before [] = refl
copied_total own before (n ∷ ns) = λ i. renumbered_count own before n i + copied_total own before ns i

pub both_total : (l r : Model) → total_places (both_books l r) ≡ total_places l + total_places r + 2
both_total l r =
    let a = map (renumbered_node (sizes_of l) nothing) l.nodes in
    let b = map (renumbered_node (sizes_of r) (sizes_of l)) r.nodes in
    let last = new_root l r ∷ [] in
    places_in_append a (b ++ last)
    ∙ ap (λ k. places_in a + k) (places_in_append b last)
    ∙ (λ i. copied_total (sizes_of l) nothing l.nodes i + (copied_total (sizes_of r) (sizes_of l) r.nodes i + 2))
    ∙ omega arith
