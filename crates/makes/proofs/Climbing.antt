-- The rows of the tree from the leaves up, and the one that a node stands in.
use Rattle.std.proofs.Common.{◌≡◌, ℕ, ◌+◌, ◌*◌, ◌<◌, ◌≤◌, ◌⊎◌, true, false, cond, Some, None, nat_le, nat_lt, ◌==◌, sym, ap, ◌∙◌, zero-add, subst, ⊎_elim, inl, inr, refl, arith}
use Rattle.std.proofs.lemmas.Bool.{ltb-true, ltb-false, leb-true, leb-false, lt-ltb, le-ltb, le-leb, lt-leb, eq-eqb, ne_eqb, cond-true, cond-false, cond_both}
use Rattle.std.proofs.lemmas.Option.{none-some, same_Some}
use Rattle.makes.specs.Sixteens.{group_count}
use Rattle.makes.specs.Covered.{leaf_row, middle_row, top_row, row_of, row_above}
use Rattle.makes.specs.declared.sixteens.Row.{Row}

abbrev up : Row → Row
up r = record { level = r.level + 1; first = r.first + group_count r.places; target = r.first; places = group_count r.places; below = 16 * r.below }

stops : (r : Row) → row_above r ≡ None → r.places ≤ 16
stops r =
    cond_both (nat_le r.places 16) None (Some (up r)) (λ o. o ≡ None → r.places ≤ 16)
    (λ e h. leb-true r.places 16 e)
    (λ e h. absurd (none-some (up r) (sym h)))

goes : (r s : Row) → row_above r ≡ Some s → (16 < r.places) × (up r ≡ s)
goes r s =
    cond_both (nat_le r.places 16) None (Some (up r)) (λ o. o ≡ Some s → (16 < r.places) × (up r ≡ s))
    (λ e h. absurd (none-some s h))
    (λ e h. (leb-false r.places 16 e, same_Some (up r) s h))

module _ (n node : ℕ) where
  abbrev leaves : ℕ
  leaves = group_count n

  abbrev upper : ℕ
  upper = leaves + group_count leaves

  -- a row that the node may stand in, as it stands in none below
  abbrev pub Climbs : Row → Type 0
  Climbs r =
      (r ≡ leaf_row n)
      ⊎ (((r ≡ middle_row n) × (16 < n) × (leaves ≤ node))
      ⊎ ((r ≡ top_row n) × (16 < n) × (16 < leaves) × (upper ≤ node)))

  by_row : (P : Row → Type 0) → P (leaf_row n) → (16 < n → leaves ≤ node → P (middle_row n)) → (16 < n → 16 < leaves → upper ≤ node → P (top_row n)) → (r : Row) → Climbs r → P r
  by_row P leaf middle top r k =
      ⊎_elim
      (λ (e : r ≡ leaf_row n). subst P (sym e) leaf)
      (⊎_elim
      (λ (h : (r ≡ middle_row n) × (16 < n) × (leaves ≤ node)). subst P (sym h.0) (middle h.1 h.2))
      (λ (h : (r ≡ top_row n) × (16 < n) × (16 < leaves) × (upper ≤ node)). subst P (sym h.0) (top h.1 h.2 h.3)))
      k

  past_leaves : leaves ≤ node → 16 < n → row_of n node ≡ cond (nat_lt node upper) (Some (middle_row n)) (cond (nat_le leaves 16) None (cond (node == upper) (Some (top_row n)) None))
  past_leaves past more =
      cond-false (nat_lt node leaves) _ _ (le-ltb node leaves past)
      ∙ cond-false (nat_le n 16) _ _ (lt-leb n 16 more)

  past_middles : 16 < n → upper ≤ node → row_of n node ≡ cond (nat_le leaves 16) None (cond (node == upper) (Some (top_row n)) None)
  past_middles more past = past_leaves (omega arith) more ∙ cond-false (nat_lt node upper) _ _ (le-ltb node upper past)

  module _ (most : n ≤ 1000) where
    pub bounded : (r : Row) → Climbs r → (r.level ≤ 2) × (r.first + r.places < 65536) × (r.below ≤ 256)
    bounded =
        by_row (λ r. (r.level ≤ 2) × (r.first + r.places < 65536) × (r.below ≤ 256))
        (omega arith, omega arith, omega arith)
        (λ more past. (omega arith, omega arith, omega arith))
        (λ more many past. (omega arith, omega arith, omega arith))

    pub found : (r : Row) → Climbs r → nat_lt node (r.first + group_count r.places) ≡ true → Some r ≡ row_of n node
    found =
        by_row (λ r. nat_lt node (r.first + group_count r.places) ≡ true → Some r ≡ row_of n node)
        (λ e. sym (cond-true (nat_lt node leaves) _ _ (lt-ltb node leaves (omega (arith, ltb-true node (0 + leaves) e)))))
        (λ more past e. sym (past_leaves past more ∙ cond-true (nat_lt node upper) _ _ e))
        (λ more many past e.
        let one : node ≡ upper = omega (arith, ltb-true node (upper + group_count (group_count leaves)) e) in
        sym (past_middles more past ∙ cond-false (nat_le leaves 16) _ _ (lt-leb leaves 16 many) ∙ cond-true (node == upper) _ _ (eq-eqb node upper one)))

    pub ended : (r : Row) → Climbs r → nat_lt node (r.first + group_count r.places) ≡ false → row_above r ≡ None → None ≡ row_of n node
    ended r k e h =
        by_row (λ r. nat_lt node (r.first + group_count r.places) ≡ false → r.places ≤ 16 → None ≡ row_of n node)
        (λ e few. sym (cond-false (nat_lt node leaves) _ _ (le-ltb node leaves (omega (arith, ltb-false node (0 + leaves) e))) ∙ cond-true (nat_le n 16) _ _ (le-leb n 16 few)))
        (λ more past e few. sym (past_middles more (ltb-false node upper e) ∙ cond-true (nat_le leaves 16) _ _ (le-leb leaves 16 few)))
        (λ more many past e few.
        let over : upper + group_count (group_count leaves) ≤ node = ltb-false node (upper + group_count (group_count leaves)) e in
        sym (past_middles more past ∙ cond-false (nat_le leaves 16) _ _ (lt-leb leaves 16 many) ∙ cond-false (node == upper) _ _ (ne_eqb node upper (λ same. omega (arith, over, same)))))
        r k e (stops r h)

    onward : (r : Row) → Climbs r → nat_lt node (r.first + group_count r.places) ≡ false → 16 < r.places → Climbs (up r)
    onward =
        by_row (λ r. nat_lt node (r.first + group_count r.places) ≡ false → 16 < r.places → Climbs (up r))
        (λ e more. inr (inl (ap (λ k. record { level = 1; first = k; target = 0; places = leaves; below = 16 }) (zero-add leaves), more, omega (arith, ltb-false node (0 + leaves) e))))
        (λ more past e many. inr (inr (refl, more, many, ltb-false node upper e)))
        (λ more many past e wide. absurd (omega arith))

    -- the next row up
    pub climbs : (r s : Row) → Climbs r → nat_lt node (r.first + group_count r.places) ≡ false → row_above r ≡ Some s → Climbs s × (s.places < r.places)
    climbs r s k e h =
        let g = goes r s h in
        subst (λ s. Climbs s × (s.places < r.places)) g.1 (onward r k e g.0, omega (arith, g.0))
