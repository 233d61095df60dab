-- What a casing string answers.
use Rattle.std.specs.Prelude.{◌≡◌, ℕ, ◌<◌, ◌≤◌, Bool, true, false, List, map, length, replicate, Some, None, Option, nat_lt, refl}
use Rattle.std.specs.Bool.{then_some}
use Rattle.std.proofs.Common.{sym, ◌∙◌, ap, arith}
use Rattle.std.proofs.lemmas.Bool.{ltb-true, ltb-false}
use Rattle.book.specs.declared.kind.Kind.{Kind}
use Rattle.std.proofs.lemmas.List.FromFn.{length-map-range_with_len}
use Rattle.std.proofs.lemmas.List.{get_or-map, get_or_past, get_or-replicate, length-map, length-replicate}
use Rattle.book.specs.Model.{Model, BookShape, node_count, pick_limit, kind_of}
use Rattle.book.specs.declared.kind.Kind.TheVariants.{Collar}
use Rattle.geometry.specs.declared.bounds.Bounds.{Bounds}
use Rattle.makes.specs.Sixteens.{nodes_for}
use Rattle.makes.specs.Tally.{collar_boxes, tallied}
use Rattle.makes.specs.declared.tally.Tally.{Tally}
use Rattle.makes.specs.Collars.{sizes_of_lem}
use Rattle.makes.specs.Sixteened.{shape_sixteens}
use Rattle.makes.specs.Trees.{tree_by}

abbrev pub boxes_of : Tally → List (Option Bounds)
boxes_of t = collar_boxes t.top t.joints.count t.joints.length

abbrev pub book_of : Tally → Model
book_of t = tallied t.top t.joints.count t.joints.length

then_by : (b : Bool) (o : Option Kind) → (b ≡ true → o ≡ Some Collar) → (b ≡ false → o ≡ None) → then_some b Collar ≡ o
then_by true o within past = sym (within refl)
then_by false o within past = sym (past refl)

module _ (t : Tally) where
  pub collars_count : length (boxes_of t) ≡ t.joints.count
  collars_count = length-map-range_with_len _ 0 t.joints.count

  some_collars : 0 < length (boxes_of t)
  some_collars = omega (arith, collars_count, (sizes_of_lem t.joints.count t.joints.length t.joints.sizes).some)

  few_collars : length (boxes_of t) ≤ 1000
  few_collars = omega (arith, collars_count, (sizes_of_lem t.joints.count t.joints.length t.joints.sizes).few)

  pub nodes_tally : (n : ℕ) → n ≡ t.joints.count → nodes_for n ≡ node_count (book_of t)
  nodes_tally n e = ap nodes_for (e ∙ sym collars_count) ∙ sym (tree_by (boxes_of t) some_collars few_collars).nodes

  pub picks_tally : t.joints.count ≡ pick_limit (book_of t)
  picks_tally = sym (length-replicate t.joints.count Collar)

  kind_within : (p : ℕ) → p < t.joints.count → kind_of (book_of t) p ≡ Some Collar
  kind_within p h =
      get_or-map Some (replicate t.joints.count Collar) p Collar None (omega (arith, picks_tally))
      ∙ ap Some (get_or-replicate t.joints.count p Collar Collar h)

  pub kind_past : (p : ℕ) → t.joints.count ≤ p → kind_of (book_of t) p ≡ None
  kind_past p h = get_or_past (map Some (replicate t.joints.count Collar)) p None (simp length-map (omega (arith, picks_tally)))

  pub kind_tally : (p : ℕ) → then_some (nat_lt p t.joints.count) Collar ≡ kind_of (book_of t) p
  kind_tally p =
      then_by (nat_lt p t.joints.count) (kind_of (book_of t) p) (λ e. kind_within p (ltb-true _ _ e)) (λ e. kind_past p (ltb-false _ _ e))

  pub shape_tally : BookShape (book_of t)
  shape_tally =
      shape_sixteens (boxes_of t) some_collars few_collars (replicate t.joints.count Collar)
      (omega (arith, picks_tally, (sizes_of_lem t.joints.count t.joints.length t.joints.sizes).few))
