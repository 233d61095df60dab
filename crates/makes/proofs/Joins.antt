-- What two books in one answer.
use Rattle.std.proofs.Common.{◌≡◌, ℕ, ◌+◌, ◌-◌, ◌<◌, ◌≤◌, List, [], ◌∷◌, ◌++◌, map, length, get_or, drop, Some, None, Option, sym, refl, ap, ◌∙◌}
use Rattle.std.proofs.Math.ListN
use Rattle.std.proofs.Math.ListN.{length-map}
use Rattle.std.specs.List.{range_with_len}
use Rattle.std.proofs.lemmas.List.FromFn.{fill_by_all}
use Rattle.std.proofs.lemmas.List.{at_drop_more, at_drop_all, get_or-map}
use Rattle.book.specs.Model.{Model, no_node, node_of, node_count, pick_limit, level_of, place_count, place_of, kind_of}
use Rattle.book.specs.declared.kind.Kind.TheVariants.{Marker}
use Rattle.book.specs.declared.place.Entry.{Entry}
use Rattle.geometry.specs.declared.bounds.Bounds.{Bounds}
use Rattle.makes.specs.Places.{place_for}
use Rattle.makes.specs.Join.{sizes_of, nothing, renumbered, renumbered_node, root_node, root_boxes, root_box, new_root, both_books}
use Rattle.makes.specs.Seam.{known, seam_root, along}
use Rattle.makes.specs.declared.seam.Seam.{Seam}
use Rattle.makes.specs.declared.seam.Sizes.{Sizes}
use Rattle.makes.specs.Smallest.{around_both, smallest, box_of}
use Rattle.makes.specs.Smallests.{around_none, around_assoc}

-- one box more behind those that are counted already
pub box_more : (sofar b whole : Option Bounds) (bs : List (Option Bounds)) (i : ℕ) → i < length bs → b ≡ get_or bs i None → around_both sofar (smallest (drop i bs)) ≡ whole → around_both (around_both sofar b) (smallest (drop (i + 1) bs)) ≡ whole
box_more sofar b whole bs i h e inv =
    around_assoc sofar b (smallest (drop (i + 1) bs))
    ∙ ap (λ x. around_both sofar (around_both x (smallest (drop (i + 1) bs)))) e
    ∙ ap (around_both sofar) (sym (at_drop_more smallest bs i None h))
    ∙ inv

pub box_all : (sofar whole : Option Bounds) (bs : List (Option Bounds)) (i : ℕ) → length bs ≤ i → around_both sofar (smallest (drop i bs)) ≡ whole → sofar ≡ whole
box_all sofar whole bs i h inv = sym (around_none sofar) ∙ ap (around_both sofar) (sym (at_drop_all smallest bs i h)) ∙ inv

pub root_boxes_count : (m : Model) (s : Sizes) → s ≡ sizes_of m → length (root_boxes m) ≡ place_count m (s.nodes - 1)
root_boxes_count m s e = simp length-map (ap (λ (z : Sizes). place_count m (z.nodes - 1)) (sym e))

root_boxes_at : (m : Model) (i : ℕ) → box_of (renumbered (sizes_of m) nothing (root_node m).level (place_of m (node_count m - 1) i)) ≡ get_or (root_boxes m) i None
root_boxes_at m i =
    let f = renumbered (sizes_of m) nothing (root_node m).level in
    sym (ListN.get_or-map box_of (map f (root_node m).places) i None ∙ ap box_of (ListN.get_or-map f (root_node m).places i None))

-- the box of one entry of the root, as the code comes to it
pub root_box_at : (m : Model) (s : Sizes) → s ≡ sizes_of m → (level i : ℕ) (was now' : Option Entry) (b : Option Bounds) → level ≡ level_of m (s.nodes - 1) → was ≡ place_of m (s.nodes - 1) i → now' ≡ renumbered s nothing level was → b ≡ box_of now' → b ≡ get_or (root_boxes m) i None
root_box_at m s e level i was now' b p q r t =
    t ∙ ap box_of (r ∙ ap (λ (z : Sizes). renumbered z nothing level was) e
    ∙ ap (λ v. renumbered (sizes_of m) nothing v was) (p ∙ ap (λ (z : Sizes). level_of m (z.nodes - 1)) e)
    ∙ ap (renumbered (sizes_of m) nothing (root_node m).level) (q ∙ ap (λ (z : Sizes). place_of m (z.nodes - 1) i) e))
    ∙ root_boxes_at m i

-- a list made by asking for each element is the list
pub asked : {X Y : Type 0} (f : X → Y) (xs : List X) (d : X) → map (λ n. f (get_or xs n d)) (range_with_len 0 (length xs)) ≡ map f xs
asked f xs d =
    sym (fill_by_all (λ n. f (get_or xs n d)) (map f xs) (length xs) (f d) (length-map xs f) (λ k h. ListN.get_or-map f xs k d))

asked_kinds : (m : Model) → map (λ p. known (kind_of m p)) (range_with_len 0 (pick_limit m)) ≡ m.kinds
asked_kinds m =
    sym (fill_by_all (λ p. known (kind_of m p)) m.kinds (pick_limit m) Marker refl
    (λ k h. sym (ap known (get_or-map Some m.kinds k Marker None h))))

module _ (l r : Model) where
  asked_left : (z : Sizes) → z ≡ sizes_of l → map (λ n. renumbered_node z nothing (node_of l n)) (range_with_len 0 z.nodes) ≡ map (renumbered_node (sizes_of l) nothing) l.nodes
  asked_left z e =
      ap (λ (y : Sizes). map (λ n. renumbered_node y nothing (node_of l n)) (range_with_len 0 y.nodes)) e
      ∙ asked (renumbered_node (sizes_of l) nothing) l.nodes no_node

  asked_right : (y z : Sizes) → y ≡ sizes_of l → z ≡ sizes_of r → map (λ n. renumbered_node z y (node_of r n)) (range_with_len 0 z.nodes) ≡ map (renumbered_node (sizes_of r) (sizes_of l)) r.nodes
  asked_right y z d e =
      ap (λ (x : Sizes). map (λ n. renumbered_node z x (node_of r n)) (range_with_len 0 z.nodes)) d
      ∙ ap (λ (x : Sizes). map (λ n. renumbered_node x (sizes_of l) (node_of r n)) (range_with_len 0 x.nodes)) e
      ∙ asked (renumbered_node (sizes_of r) (sizes_of l)) r.nodes no_node

  same_root : (y z : Sizes) (level : ℕ) (a b : Option Bounds) → y ≡ sizes_of l → z ≡ sizes_of r → level ≡ (root_node l).level + 1 → a ≡ root_box l → b ≡ root_box r → (level ≡ (new_root l r).level) × (place_for (y.nodes - 1) a ∷ place_for (y.nodes + z.nodes - 1) b ∷ [] ≡ (new_root l r).places)
  same_root y z level a b d e f p q = (
    f,
    ap (λ (x : Sizes). place_for (x.nodes - 1) a ∷ place_for (x.nodes + z.nodes - 1) b ∷ []) d
        ∙ ap (λ (x : Sizes). place_for (node_count l - 1) a ∷ place_for (node_count l + x.nodes - 1) b ∷ []) e
        ∙ ap (λ x. place_for (node_count l - 1) x ∷ place_for (node_count l + node_count r - 1) b ∷ []) p
        ∙ ap (λ x. place_for (node_count l - 1) (root_box l) ∷ place_for (node_count l + node_count r - 1) x ∷ []) q,
  )

  asked_picks : (m : Model) (z : Sizes) → z ≡ sizes_of m → map (λ p. known (kind_of m p)) (range_with_len 0 z.picks) ≡ m.kinds
  asked_picks m z e = ap (λ (x : Sizes). map (λ p. known (kind_of m p)) (range_with_len 0 x.picks)) e ∙ asked_kinds m

  -- what a join keeps gives both books
  pub along_both : (s : Seam) → s.left ≡ sizes_of l → s.right ≡ sizes_of r → s.level ≡ (root_node l).level + 1 → s.left_box ≡ root_box l → s.right_box ≡ root_box r → along (Some s) l r ≡ both_books l r
  unfolding along
  along_both s d e f p q =
      let root = same_root s.left s.right s.level s.left_box s.right_box d e f p q in
      let same : seam_root s ≡ new_root l r = λ i. record { level = root.0 i; places = root.1 i } in
      let left = asked_left s.left d in
      let right = asked_right s.left s.right d e in
      let ks = asked_picks l s.left d in
      let kt = asked_picks r s.right e in
      λ i. record { nodes = left i ++ (right i ++ (same i ∷ [])); kinds = ks i ++ kt i }
