-- Rows of one query after those of another.
use Rattle.std.proofs.Common.{◌≡◌, ℕ, zero, suc, ◌+◌, ◌-◌, ◌<◌, ◌≤◌, min, leb, List, [], ◌∷◌, ◌++◌, map, length, get_or, take, drop, sym, refl, ap, ◌∙◌, ⊎_elim, arith}
use native.Mathlib.Nat.{min-le_left, min-le_right, min-eq_left, min-eq_right}
use Rattle.std.specs.List.{flat_map}
use borrow.Rule.Slice.PartMut.{mid_of, put_mid}
use Rattle.std.proofs.lemmas.List.{append-nil, flat_map_more, take-append-drop, take_all, take-take, take_more, length-take, length-drop, length-append, length-map}
use Rattle.std.proofs.lemmas.Bool.{cases_Bool, leb-true, leb-false}
use Rattle.geometry.specs.declared.bounds.Bounds.{Bounds}
use Rattle.book.specs.Model.{Model}
use Rattle.browse.specs.declared.answer.Row.{Row}
use Rattle.browse.specs.Law.{ranking}
use Rattle.exported.specs.declared.crossing.ToldRow.{ToldRow}
use Rattle.exported.specs.Rows.{Distance, first_rows, told_row, laid}

take_split : {A : Type 0} (n : ℕ) (a b : List A) → take n (a ++ b) ≡ take n a ++ take (n - length (take n a)) b
take_split zero a b = refl
take_split (suc n) [] b = let e : suc n ≡ suc n - 0 = omega arith in ap (λ k. take k b) e
take_split (suc n) (x ∷ xs) b =
    let l = length (take n xs) in
    let e : n - l ≡ suc n - suc l = omega arith in
    ap (λ z. x ∷ z) (take_split n xs b ∙ ap (λ k. take n xs ++ take k b) e)

-- at most so many, and of these at most so many
take_least : (a b : ℕ) (rows : List Row) → take (min b a) rows ≡ take a (take b rows)
take_least a b rows =
    ⊎_elim
    (λ e.
    let h : b ≤ a = leb-true b a e in
    ap (λ n. take n rows) (min-eq_left h) ∙ sym (take_all a (take b rows) (omega (arith, length-take b rows, min-le_left b (length rows)))))
    (λ e.
    let h : a ≤ b = omega (arith, leb-false b a e) in
    ap (λ n. take n rows) (min-eq_right h) ∙ sym (take-take a b rows h))
    (cases_Bool (leb b a))

-- rows written into the front of a slice, of which the first c places were lent
lent_front : (xs : List Row) (c : ℕ) (before : List ToldRow) → length xs ≤ c → laid xs (take c before) ++ drop c before ≡ laid xs before
lent_front [] c before h = take-append-drop c before
lent_front (x ∷ xs) zero before h = absurd (omega arith)
lent_front (x ∷ xs) (suc c) [] h = ap (λ l. told_row x ∷ l) (append-nil (map told_row xs ++ []))
lent_front (x ∷ xs) (suc c) (b ∷ bs) h = ap (λ l. told_row x ∷ l) (lent_front xs c bs (omega arith))

-- and into a slice that has rows in front
lent_later : (ts xs : List Row) (c : ℕ) (before : List ToldRow) → length ts ≤ length before → length xs ≤ c →
    take (length ts) (laid ts before) ++ (laid xs (take c (drop (length ts) (laid ts before))) ++ drop c (drop (length ts) (laid ts before))) ≡ laid (ts ++ xs) before
lent_later [] xs c before h k = lent_front xs c before k
lent_later (t ∷ ts) xs c [] h k = absurd (omega arith)
lent_later (t ∷ ts) xs c (b ∷ bs) h k = ap (λ l. told_row t ∷ l) (lent_later ts xs c bs (omega arith) k)

-- After i queries their first rows are told, as many as there is room for.
pub record Laying (far : Distance) (m : Model) (each : ℕ) (queries : List Bounds) (before : List ToldRow) (i : ℕ) (now : List ToldRow) (told : ℕ) : Type 0 where
  pub count : told ≡ length (take (length before) (first_rows far m each (take i queries)))
  pub written : now ≡ laid (take (length before) (first_rows far m each (take i queries))) before

module _ (far : Distance) (m : Model) (each : ℕ) (queries : List Bounds) (before : List ToldRow) where
  pub room : (i : ℕ) (now : List ToldRow) (told : ℕ) → Laying far m each queries before i now told → told ≤ length before
  room i now told h =
      let earlier = first_rows far m each (take i queries) in
      omega (arith, h.count, length-take (length before) earlier, min-le_left (length before) (length earlier))

  module _ (i : ℕ) (now : List ToldRow) (told : ℕ) (h : Laying far m each queries before i now told) (q : Bounds) (lt : i < length queries) (is : get_or queries i q ≡ q) where
    abbrev earlier : List Row
    earlier = first_rows far m each (take i queries)

    abbrev so_far : List Row
    so_far = take (length before) earlier

    abbrev all : List Row
    all = ranking m (far q)

    few : length so_far ≤ length before
    few = omega (arith, h.count, room i now told h)

    as_long : length now ≡ length before
    as_long =
        ap length h.written ∙ length-append (map told_row so_far) (drop (length so_far) before)
        ∙ (let e = length-map so_far told_row in let d = length-drop (length so_far) before in omega (arith, e, d, few))

    rows_next : first_rows far m each (take (i + 1) queries) ≡ earlier ++ take each all
    rows_next =
        let f : Bounds → List Row = λ x. take each (ranking m (far x)) in
        ap (flat_map f) (take_more queries i q lt ∙ ap (λ x. take i queries ++ x ∷ []) is) ∙ sym (flat_map_more f [] (take i queries) q)

    module _ (c : ℕ) (least : c ≡ min each (length before - told)) where
      next : List Row
      next = take c all

      next_is : next ≡ take (length before - length so_far) (take each all)
      unfolding next
      next_is =
          (λ j. take (least j) all) ∙ take_least (length before - told) each all
          ∙ (λ j. take (length before - h.count j) (take each all))

      next_few : length next ≤ c
      unfolding next
      next_few = omega (arith, length-take c all, min-le_left c (length all))

      told_next : take (length before) (first_rows far m each (take (i + 1) queries)) ≡ so_far ++ next
      told_next =
          ap (take (length before)) rows_next ∙ take_split (length before) earlier (take each all)
          ∙ ap (λ l. so_far ++ l) (sym next_is)

      lent : length (mid_of told c now) ≡ c
      lent =
          let e = length-take c (drop told now) in
          let f = length-drop told now in
          let k = min-le_right each (length before - told) in
          e ∙ min-eq_left (omega (arith, f, k, least, as_long))

      pub lays_more : (ys : List ToldRow) (count : ℕ) → count ≡ length (take (length (mid_of told c now)) all) → ys ≡ laid (take (length (mid_of told c now)) all) (mid_of told c now) →
          Laying far m each queries before (i + 1) (put_mid told c now ys) (told + count)
      unfolding next
      lays_more ys count e f =
          let p : take (length (mid_of told c now)) all ≡ next = ap (λ n. take n all) lent in
          record {
            count =
                (λ j. h.count j + (e ∙ ap length p) j) ∙ sym (length-append so_far next) ∙ ap length (sym told_next);
            written =
                ap (put_mid told c now) (f ∙ ap (λ l. laid l (mid_of told c now)) p)
                ∙ (λ j. put_mid (h.count j) c (h.written j) (laid next (mid_of (h.count j) c (h.written j))))
                ∙ lent_later so_far next c before few next_few ∙ ap (λ l. laid l before) (sym told_next);
          }
