-- A book whose nodes are a tree by sixteens has a book's shape.
use Rattle.std.specs.Prelude.{◌≡◌, ℕ, ◌+◌, ◌-◌, ◌*◌, ◌<◌, ◌≤◌, List, length, Some, None, Option, nat_le, refl}
use Rattle.std.proofs.Common.{⊎_elim, sym, ◌∙◌, ap, arith}
use Rattle.std.proofs.lemmas.List.{get_or_past}
use Rattle.std.proofs.lemmas.Bool.{cases_lt, cond_both}
use Rattle.book.specs.Model.{BookShape}
use Rattle.book.specs.declared.kind.Kind.{Kind}
use Rattle.book.specs.declared.place.Entry.{Entry}
use Rattle.geometry.specs.declared.bounds.Bounds.{Bounds}
use Rattle.geometry.proofs.Boxes.{by_option}
use Rattle.std.proofs.lemmas.Option.{none-some}
use Rattle.makes.specs.Places.{place_for}
use Rattle.makes.specs.Sixteens.{group_count, by_sixteens, level_at, places_at, place_at, nodes_for}
use Rattle.makes.specs.Covered.{row_of}
use Rattle.makes.specs.declared.sixteens.Row.{Row}
use Rattle.makes.specs.Covers.{level_some, level_none, count_some, count_none, place_none, place_wide, place_at_lem, facts}
use Rattle.makes.specs.Rows.{at_level}
use Rattle.makes.specs.Shapes.{shape_by, target_named}
use Rattle.makes.specs.Trees.{tree_by}

pub nodes_within : (n : ℕ) → 0 < n → n ≤ 1000 → (0 < nodes_for n) × (nodes_for n ≤ 68)
nodes_within n some most =
    let P : ℕ → Type 0 = λ k. (0 < k) × (k ≤ 68) in
    cond_both (nat_le n 16) 1 _ P (λ e. (omega arith, omega arith))
    (λ e. cond_both (nat_le n 256) (group_count n + 1) _ P (λ f. (omega arith, omega arith)) (λ f. (omega arith, omega arith)))

module _ (bs : List (Option Bounds)) (some : 0 < length bs) (most : length bs ≤ 1000) where
  low_levels : (node : ℕ) → level_at (by_sixteens bs) node ≤ 7
  low_levels node =
      by_option (row_of (length bs) node)
      (λ p. omega (arith, level_none (length bs) node bs refl most (sym p)))
      (λ r p. omega (arith, level_some (length bs) node bs refl most r (sym p), (facts (length bs) node bs refl most r (sym p) some).low))

  few_places : (node : ℕ) → length (places_at (by_sixteens bs) node) ≤ 16
  few_places node =
      by_option (row_of (length bs) node)
      (λ p. omega (arith, count_none (length bs) node bs refl most (sym p)))
      (λ r p. omega (arith, count_some (length bs) node bs refl most r (sym p) some))

  near_target : (node i : ℕ) (r : Row) → Some r ≡ row_of (length bs) node → i < 16 → (e : Entry) → place_at (by_sixteens bs) node i ≡ Some e → e.target < 65536
  near_target node i r p low e t =
      let f = facts (length bs) node bs refl most r p some in
      let q = 16 * (node - r.first) + i in
      let here = place_at_lem (length bs) node bs refl most r p some i low in
      ⊎_elim
      (λ (h : q < r.places). target_named (r.target + q) 65536 _ e (omega (arith, f.near)) (sym here ∙ t))
      (λ (h : r.places ≤ q).
      let none = get_or_past (at_level r.level bs) q None (omega (arith, f.many bs refl)) in
      absurd (none-some e (sym (here ∙ ap (place_for (r.target + q)) none) ∙ t)))
      (cases_lt q r.places)

  near_targets : (node i : ℕ) (e : Entry) → place_at (by_sixteens bs) node i ≡ Some e → e.target < 65536
  near_targets node i e t =
      by_option (row_of (length bs) node)
      (λ p. absurd (none-some e (place_none (length bs) node bs refl most i (sym p) ∙ t)))
      (λ r p.
      ⊎_elim
      (λ (h : i < 16). near_target node i r (sym p) h e t)
      (λ (h : 16 ≤ i). absurd (none-some e (place_wide (length bs) node bs refl most r (sym p) some i h ∙ t)))
      (cases_lt i 16))

  pub shape_sixteens : (ks : List Kind) → length ks ≤ 2048 → BookShape (record { nodes = by_sixteens bs; kinds = ks })
  shape_sixteens ks picks =
      let within = nodes_within (length bs) some most in
      let count = (tree_by bs some most).nodes in
      shape_by (record { nodes = by_sixteens bs; kinds = ks }) (omega (arith, within.0, count)) (omega (arith, within.1, count)) picks low_levels few_places near_targets
