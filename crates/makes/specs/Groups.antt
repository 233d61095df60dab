-- Groups of sixteen, and the boxes of the row above.
use Rattle.std.specs.Prelude.{◌≡◌, ℕ, zero, suc, ◌+◌, ◌-◌, ◌*◌, ◌<◌, ◌≤◌, min, List, [], ◌∷◌, map, length, take, drop, Some, None, Option, slice_index_or, refl}
use Rattle.std.proofs.Common.{sym, ◌∙◌, ap, ⊎_elim, add-zero, arith, length-take, length-drop}
use Rattle.std.proofs.lemmas.List.FromFn.{length-map-range_with_len, get_or-map-range_with_len}
use Rattle.std.proofs.lemmas.List.{get_or_past, get_or-take, get_or-drop, get_or-map, drop_all, length-map}
use Rattle.std.proofs.lemmas.Bool.{cases_lt}
use Rattle.book.specs.Model.{no_node}
use Rattle.book.specs.declared.place.Entry.{Entry}
use Rattle.geometry.specs.declared.bounds.Bounds.{Bounds}
use Rattle.makes.specs.Places.{place_for}
use Rattle.makes.specs.Sixteens.{named, group_count, group, groups, node_with, row}
use Rattle.makes.specs.Smallest.{smallest, box_of}

pub named_length : (t : ℕ) (bs : List (Option Bounds)) → length (named t bs) ≡ length bs
named_length t [] = refl
named_length t (b ∷ bs) = ap suc (named_length (t + 1) bs)

pub named_at : (t : ℕ) (bs : List (Option Bounds)) (j : ℕ) → slice_index_or (named t bs) j None ≡ place_for (t + j) (slice_index_or bs j None)
named_at t [] j = refl
named_at t (b ∷ bs) zero = ap (λ k. place_for k b) (sym (add-zero t))
named_at t (b ∷ bs) (suc j) =
    let same : t + 1 + j ≡ t + suc j = omega arith in
    named_at (t + 1) bs j ∙ ap (λ k. place_for k (slice_index_or bs j None)) same

box_of_place : (t : ℕ) (b : Option Bounds) → box_of (place_for t b) ≡ b
box_of_place t (Some b) = refl
box_of_place t None = refl

pub named_boxes : (t : ℕ) (bs : List (Option Bounds)) → map box_of (named t bs) ≡ bs
named_boxes t [] = refl
named_boxes t (b ∷ bs) = let e = box_of_place t b in let f = named_boxes (t + 1) bs in cc

pub group_length : {A : Type 0} (xs : List A) (k : ℕ) → length (group xs k) ≡ min 16 (length xs - 16 * k)
group_length xs k = simp (length-take, length-drop)

pub group_at : {A : Type 0} (xs : List A) (k i : ℕ) (d : A) → i < 16 → slice_index_or (group xs k) i d ≡ slice_index_or xs (16 * k + i) d
group_at xs k i d h = get_or-take 16 (drop (16 * k) xs) i d h ∙ get_or-drop (16 * k) xs i d

pub group_past : {A : Type 0} (xs : List A) (k i : ℕ) (d : A) → 16 ≤ i → slice_index_or (group xs k) i d ≡ d
group_past xs k i d h = get_or_past (group xs k) i d (omega (arith, group_length xs k))

pub group_none : {A : Type 0} (xs : List A) (k : ℕ) → length xs ≤ 16 * k → group xs k ≡ []
group_none xs k h = ap (take 16) (drop_all (16 * k) xs h)

pub groups_length : {A : Type 0} (xs : List A) → length (groups xs) ≡ group_count (length xs)
groups_length xs = length-map-range_with_len (group xs) 0 (group_count (length xs))

pub row_length : (v : ℕ) (ps : List (Option Entry)) → length (row v ps) ≡ group_count (length ps)
row_length v ps = length-map (groups ps) (node_with v) ∙ groups_length ps

pub row_at : (v : ℕ) (ps : List (Option Entry)) (k : ℕ) → k < group_count (length ps) → slice_index_or (row v ps) k no_node ≡ node_with v (group ps k)
row_at v ps k h =
    let long : k < length (groups ps) = omega (arith, groups_length ps) in
    get_or-map (node_with v) (groups ps) k [] no_node long
    ∙ ap (node_with v) (get_or-map-range_with_len (group ps) 0 (group_count (length ps)) k k [] h (omega arith))

-- the boxes of the row above
abbrev pub above : List (Option Bounds) → List (Option Bounds)
above bs = map smallest (groups bs)

pub above_length : (bs : List (Option Bounds)) → length (above bs) ≡ group_count (length bs)
above_length bs = length-map (groups bs) smallest ∙ groups_length bs

above_in : (bs : List (Option Bounds)) (q : ℕ) → q < group_count (length bs) → slice_index_or (above bs) q None ≡ smallest (group bs q)
above_in bs q h =
    let long : q < length (groups bs) = omega (arith, groups_length bs) in
    get_or-map smallest (groups bs) q [] None long
    ∙ ap smallest (get_or-map-range_with_len (group bs) 0 (group_count (length bs)) q q [] h (omega arith))

above_out : (bs : List (Option Bounds)) (q : ℕ) → group_count (length bs) ≤ q → slice_index_or (above bs) q None ≡ smallest (group bs q)
above_out bs q h =
    get_or_past (above bs) q None (omega (arith, above_length bs))
    ∙ sym (ap smallest (group_none bs q (omega arith)))

pub above_at : (bs : List (Option Bounds)) (q : ℕ) → slice_index_or (above bs) q None ≡ smallest (group bs q)
above_at bs q = ⊎_elim (above_in bs q) (above_out bs q) (cases_lt q (group_count (length bs)))
