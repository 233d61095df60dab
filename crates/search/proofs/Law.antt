-- The law stands for every list of turns.
use Rattle.std.proofs.Common.{◌≡◌, ℕ, ◌<◌, ◌≤◌, false, leb, List, [], ◌∷◌, ◌++◌, map, length, Some, None, Option, sym, refl, ap, ◌∙◌, subst, arith}
use Rattle.std.specs.List.{ContainsAt as Has, AllByRecursion as All}
use Rattle.std.proofs.lemmas.Bool.{cond-true, cond-false, le-leb, lt-leb}
use Rattle.std.proofs.ByRecursion.{All-weaker, All-append, all_has_itself}
use Rattle.std.proofs.lemmas.List.{append-nil, append_assoc, append_cancel_left, map-append}
use Rattle.search.specs.declared.turn.Call.{Call}
use Rattle.search.specs.declared.turn.Call.TheVariants.{Next, Report}
use Rattle.search.specs.declared.turn.Turn.{Turn}
use Rattle.search.specs.Tree.{Tree, nodes, finals}
use Rattle.search.specs.Answer.{Answer, none, told, counts, row_in, rows_in}
use Rattle.search.specs.Turns.{answers_from, standing_after}
use Rattle.search.specs.Search.{Standing, start, turned, answers}
use Rattle.search.specs.Law.{Exchange, exchanges, rows_told, reach, greater, reached, opened_by, Fits, AllFit, Unlimited, first_within}
use Rattle.search.specs.Lawful.{space_of, Lawful, NearestIsTold}
use Rattle.search.proofs.Lists.{all_right}
use Rattle.search.proofs.Waiting.{all_sorted}
use Rattle.search.proofs.Tree.{Members, Ordered, pending, all_pending, below_weaker}
use Rattle.search.proofs.Turns.{answers_append, answers_length}
use Rattle.search.proofs.Search.{Between, After, ranks, counted, called_after, at_start, greater_none}

greater_assoc : (a b c : Option ℕ) → greater (greater a b) c ≡ greater a (greater b c)
greater_assoc None b c = refl
greater_assoc (Some a) None c = refl
greater_assoc (Some a) (Some b) None = refl
greater_assoc (Some a) (Some b) (Some c) = ap Some (omega arith)

-- one more exchange
pub reached_push : {R : Type 0} (d : R → ℕ) (es : List (Exchange R)) (e : Exchange R) → reached d (es ++ e ∷ []) ≡ greater (reached d es) (reach d e.0.call e.1)
reached_push d [] e = greater_none (reach d e.0.call e.1)
reached_push d (x ∷ es) e =
    ap (greater (reach d x.0.call x.1)) (reached_push d es e) ∙ sym (greater_assoc (reach d x.0.call x.1) (reached d es) (reach d e.0.call e.1))

pub rows_append : {R : Type 0} (qs rs : List (Answer R)) → rows_in (qs ++ rs) ≡ rows_in qs ++ rows_in rs
rows_append [] rs = refl
rows_append (none o ∷ qs) rs = rows_append qs rs
rows_append (told r o ∷ qs) rs = ap (λ us. r ∷ us) (rows_append qs rs)
rows_append (counts n o ∷ qs) rs = rows_append qs rs

pub told_push : {R : Type 0} (es : List (Exchange R)) (e : Exchange R) → rows_told (es ++ e ∷ []) ≡ rows_told es ++ rows_in (e.1 ∷ [])
told_push es e = ap rows_in (map-append (λ x. x.1) es (e ∷ [])) ∙ rows_append (map (λ x. x.1) es) (e.1 ∷ [])

module _ {X : Type 0} (t : Tree X) (Member : X → Type 0) (m : Members t Member) (o : Ordered t Member) where
  abbrev left : Standing X → List X
  left s = pending t s.waiting

  abbrev from : Standing X → List Turn → List (Answer X)
  from s us = answers_from (turned t) s us

  module _ (rows : List X) (g : Option ℕ) (os : List X) (s : Standing X) (p : Between t Member rows g os s) where
    after : (u : Turn) → After t Member rows g u.call (turned t s u).0 (turned t s u).1
    after u = called_after t Member m o rows g os s p u.call

    -- what an answer tells and what is left then was left before
    left_after : (c : Call) (q : Answer X) (s' : Standing X) → After t Member rows g c q s' → rows_in (q ∷ []) ++ left s' ≡ left s
    left_after c q s' a =
        append_cancel_left rows (rows_in (q ∷ []) ++ left s') (left s)
        (sym (append_assoc rows (rows_in (q ∷ [])) (left s'))
        ∙ ranks t Member m o (rows ++ rows_in (q ∷ [])) a.os s'.waiting a.at.parted
        ∙ sym (ranks t Member m o rows os s.waiting p.parted))

    far_left : (l : ℕ) (n : ℕ) (s' : Standing X) → After t Member rows g (Next l) (none n) s' → All (λ r. l < t.distance r) (left s')
    far_left l n s' a = all_pending t (λ r. l < t.distance r) s'.waiting (below_weaker t (λ z. l < t.distance z) (λ z. t.opens z ≡ false → l < t.distance z) (λ z i _. i) s'.waiting a.says)

    fits_after : (unlimited : ℕ) (c : Call) (q : Answer X) (s' : Standing X) → After t Member rows g c q s' → Fits (space_of t unlimited) rows c q
    fits_after unlimited (Next l) (none n) s' a =
        let Q : X → Type 0 = λ r. t.distance r ≤ l → Has rows r in
        subst (All Q) (ap (λ us. rows ++ us) (left_after (Next l) (none n) s' a) ∙ ranks t Member m o rows os s.waiting p.parted)
        (All-append Q rows (left s') (All-weaker (Has rows) Q (λ r h _. h) rows (all_has_itself rows))
        (All-weaker (λ r. l < t.distance r) Q (λ r i j. absurd (omega arith)) (left s') (far_left l n s' a)))
    fits_after unlimited (Next l) (told x n) s' a = a.says
    fits_after unlimited (Next l) (counts k n) s' a = a.says
    fits_after unlimited Report (none n) s' a = a.says
    fits_after unlimited Report (told x n) s' a = a.says
    fits_after unlimited Report (counts k n) s' a = a.says

    -- `next` tells the first that is left, if it is within the limit
    first_after : (l : ℕ) (q : Answer X) (s' : Standing X) → After t Member rows g (Next l) q s' → row_in q ≡ first_within t.distance l (left s)
    first_after l (none n) s' a = at (left s) (subst (All (λ r. l < t.distance r)) (left_after (Next l) (none n) s' a) (far_left l n s' a))
      where
        at : (rs : List X) → All (λ r. l < t.distance r) rs → None ≡ first_within t.distance l rs
        at [] h = refl
        at (r ∷ rs) h = sym (cond-false (leb (t.distance r) l) (Some r) None (lt-leb (t.distance r) l h.0))
    first_after l (told x n) s' a =
        sym (cond-true (leb (t.distance x) l) (Some x) None (le-leb (t.distance x) l a.says)) ∙ ap (first_within t.distance l) (left_after (Next l) (told x n) s' a)
    first_after l (counts k n) s' a = absurd a.says

    silent_after : (c : Call) (q : Answer X) (s' : Standing X) → After t Member rows g c q s' → left s ≡ [] → (row_in q ≡ None) × (left s' ≡ [])
    silent_after c (none n) s' a e = (refl, left_after c (none n) s' a ∙ e)
    silent_after c (told x n) s' a e = let z : ◌≡◌ {A = ℕ} 1 0 = cc (left_after c (told x n) s' a, e) in absurd (omega (arith, z))
    silent_after c (counts k n) s' a e = (refl, left_after c (counts k n) s' a ∙ e)

  all_fit : (unlimited : ℕ) (us : List Turn) (earlier : List (Exchange X)) (os : List X) (s : Standing X) → Between t Member (rows_told earlier) (reached t.distance earlier) os s →
      AllFit (space_of t unlimited) earlier (exchanges us (from s us))
  all_fit unlimited [] earlier os s p = tt
  all_fit unlimited (u ∷ us) earlier os s p =
      let rows = rows_told earlier in
      let g = reached t.distance earlier in
      let q = (turned t s u).0 in
      let s' = (turned t s u).1 in
      let a = after rows g os s p u in
      let g' = greater g (reach t.distance u.call q) in
      let rp = reached_push t.distance earlier (u, q) in (
        fits_after rows g os s p unlimited u.call q s' a,
        a.count ∙ sym (counted t Member m o (rows ++ rows_in (q ∷ [])) g' a.os s' a.at) ∙ ap (opened_by (map t.distance (nodes t))) (sym rp),
        all_fit unlimited us (earlier ++ (u, q) ∷ []) a.os s'
            (subst (λ h. Between t Member (rows_told (earlier ++ (u, q) ∷ [])) h a.os s') (sym rp) (subst (λ rs. Between t Member rs g' a.os s') (sym (told_push earlier (u, q))) a.at)),
      )

  pub at_after : (us : List Turn) (rows : List X) (g : Option ℕ) (os : List X) (s : Standing X) → Between t Member rows g os s →
      (g' : Option ℕ) × (os' : List X) × Between t Member (rows ++ rows_in (from s us)) g' os' (standing_after (turned t) s us)
  at_after [] rows g os s p = (g, os, subst (λ rs. Between t Member rs g os s) (sym (append-nil rows)) p)
  at_after (u ∷ us) rows g os s p =
      let q = (turned t s u).0 in
      let s' = (turned t s u).1 in
      let a = after rows g os s p u in
      let r = at_after us (rows ++ rows_in (q ∷ [])) (greater g (reach t.distance u.call q)) a.os s' a.at in (
        r.0,
        r.1,
        subst (λ rs. Between t Member rs r.0 r.1 (standing_after (turned t) s' us))
            (append_assoc rows (rows_in (q ∷ [])) (rows_in (from s' us)) ∙ ap (λ rs. rows ++ rs) (sym (rows_append (q ∷ []) (from s' us)))) r.2,
      )

  silent : (us : List Turn) (rows : List X) (g : Option ℕ) (os : List X) (s : Standing X) → Between t Member rows g os s → left s ≡ [] → map row_in (from s us) ≡ map (λ _. None) us
  silent [] rows g os s p e = refl
  silent (u ∷ us) rows g os s p e =
      let q = (turned t s u).0 in
      let s' = (turned t s u).1 in
      let a = after rows g os s p u in
      let r = silent_after rows g os s p u.call q s' a e in
      let h = silent us (rows ++ rows_in (q ∷ [])) (greater g (reach t.distance u.call q)) a.os s' a.at r.1 in
      λ i. r.0 i ∷ h i

  -- the first is told, so the others are left
  left_rest : (q : Answer X) (y : X) (ys zs : List X) → row_in q ≡ Some y → rows_in (q ∷ []) ++ zs ≡ y ∷ ys → zs ≡ ys
  left_rest (none n) y ys zs e h = let z : ◌≡◌ {A = ℕ} 1 0 = cc (e) in absurd (omega (arith, z))
  left_rest (told x n) y ys zs e h = cc (h)
  left_rest (counts k n) y ys zs e h = let z : ◌≡◌ {A = ℕ} 1 0 = cc (e) in absurd (omega (arith, z))

  module _ (unlimited : ℕ) (near : All (λ r. t.distance r ≤ unlimited) (finals t)) where
    tells_rest : (rest : List X) (nexts more : List Turn) (rows : List X) (g : Option ℕ) (os : List X) (s : Standing X) → Between t Member rows g os s → left s ≡ rest →
        length nexts ≡ length rest → All (Unlimited (space_of t unlimited)) nexts → map row_in (from s (nexts ++ more)) ≡ map Some rest ++ map (λ _. None) more
    tells_rest [] [] more rows g os s p e n h = silent more rows g os s p e
    tells_rest [] (u ∷ us) more rows g os s p e n h = absurd (omega (arith, n))
    tells_rest (y ∷ ys) [] more rows g os s p e n h = absurd (omega (arith, n))
    tells_rest (y ∷ ys) (u ∷ us) more rows g os s p e n h =
        let q = (turned t s u).0 in
        let s' = (turned t s u).1 in
        let a = after rows g os s p u in
        let N : X → Type 0 = λ r. t.distance r ≤ unlimited in
        let ny : t.distance y ≤ unlimited =
        (all_right N rows (y ∷ ys) (subst (All N) (sym (ap (λ us. rows ++ us) (sym e) ∙ ranks t Member m o rows os s.waiting p.parted)) (all_sorted t.before N (finals t) near))).0 in
        let first : row_in q ≡ Some y =
        first_after rows g os s p unlimited q s' (subst (λ c. After t Member rows g c q s') h.0 a) ∙ ap (first_within t.distance unlimited) e
        ∙ cond-true (leb (t.distance y) unlimited) (Some y) None (le-leb (t.distance y) unlimited ny) in
        let more_left : left s' ≡ ys = left_rest q y ys (left s') first (left_after rows g os s p u.call q s' a ∙ e) in
        let k = tells_rest ys us more (rows ++ rows_in (q ∷ [])) (greater g (reach t.distance u.call q)) a.os s' a.at more_left (omega (arith, n)) h.1 in
        λ i. first i ∷ k i

    pub lawful : Lawful t unlimited
    lawful us =
        let s₀ = start t.root in
        let r = at_after us [] None [] s₀ (at_start t Member m o) in
        let s = standing_after (turned t) s₀ us in
        let whole = ranks t Member m o (rows_in (answers t us)) r.1 s.waiting r.2.parted in
        record {
          each = answers_length (turned t) s₀ us;
          ranked = (left s, whole);
          fit = all_fit unlimited us [] [] s₀ (at_start t Member m o);
          complete = λ rest e nexts more n h.
              let same : left s ≡ rest = append_cancel_left (rows_in (answers t us)) (left s) rest (whole ∙ sym e) in
              ap (map row_in) (answers_append (turned t) s₀ us (nexts ++ more)) ∙ map-append row_in (answers t us) (from s (nexts ++ more))
              ∙ ap (λ qs. map row_in (answers t us) ++ qs) (tells_rest rest nexts more (rows_in (answers t us)) r.0 r.1 s r.2 same n h);
        }

  pub nearest_is_told : NearestIsTold t
  nearest_is_told us rest e u limit c =
      let s₀ = start t.root in
      let r = at_after us [] None [] s₀ (at_start t Member m o) in
      let s = standing_after (turned t) s₀ us in
      let rows = rows_in (answers t us) in
      let whole = ranks t Member m o rows r.1 s.waiting r.2.parted in
      let same : left s ≡ rest = append_cancel_left rows (left s) rest (whole ∙ sym e) in
      let q = (turned t s u).0 in
      let s' = (turned t s u).1 in
      let a = after rows r.0 r.1 s r.2 u in
      let first : row_in q ≡ first_within t.distance limit rest =
      first_after rows r.0 r.1 s r.2 limit q s' (subst (λ k. After t Member rows r.0 k q s') c a) ∙ ap (first_within t.distance limit) same in
      ap (map row_in) (answers_append (turned t) s₀ us (u ∷ [])) ∙ map-append row_in (answers t us) (q ∷ []) ∙ ap (λ x. map row_in (answers t us) ++ x ∷ []) first
