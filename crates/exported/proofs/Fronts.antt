-- What a browse has told, row by row, is the front of the ranking.
use Rattle.std.proofs.Common.{◌≡◌, ℕ, ◌+◌, ◌<◌, ◌≤◌, Bool, true, false, cond, eqb, leb, List, [], ◌∷◌, ◌++◌, map, length, take, set, Some, None, Option, sym, refl, ap, ◌∙◌, subst, arith}
use Rattle.std.specs.List.{flat_map, AllByRecursion as All}
use Rattle.std.proofs.ByRecursion.{All-map}
use Rattle.std.proofs.lemmas.Bool.{cond_both, le-leb}
use Rattle.std.proofs.lemmas.List.{append_assoc, append-nil, map-append, length_push, take_all}
use Rattle.book.specs.Model.{Model, Node}
use Rattle.book.specs.declared.place.Entry.{Entry}
use Rattle.book_check.specs.Accepted.{Accepted}
use Rattle.search.specs.declared.turn.Hand.TheVariants.{Day}
use Rattle.search.specs.declared.turn.Call.TheVariants.{Next}
use Rattle.search.specs.declared.turn.Turn.{Turn}
use Rattle.search.specs.Answer.{Answer, none, told, counts, row_in, rows_in}
use Rattle.search.specs.Law.{first_within}
use Rattle.search.specs.Search.{Standing}
use Rattle.search.proofs.Law.{rows_append}
use Rattle.search.proofs.Lists.{all_right, all_join, all_every}
use Rattle.search.proofs.Turns.{answers_append, standing_append}
use Rattle.search.proofs.Waiting.{all_sorted}
use Rattle.browse.specs.declared.answer.Row.{Row}
use Rattle.browse.specs.declared.waiting.Class.{Class}
use Rattle.browse.specs.declared.waiting.Class.TheVariants.{Pick}
use Rattle.browse.specs.Thing.{Thing}
use Rattle.browse.specs.Tree.{Far, things}
use Rattle.browse.specs.Browse.{Reply, row, opening, next_of, turned, replies_from, stands_after}
use Rattle.browse.specs.Law.{TellsNearest, picks_in, rows, row_before, ranking, unlimited, answer_in, answers, taken, FitsWord}
use Rattle.exported.specs.declared.crossing.ToldRow.{ToldRow}
use Rattle.exported.specs.Rows.{told_row, laid}

-- no row is beyond every limit
abbrev Near : Row → Type 0
Near r = r.distance ≤ unlimited

module _ (m : Model) (far : Far) (fits : FitsWord far) where
  near_things : (c : Class) (ps : List (Option Entry)) → All (λ x. Near (row x)) (things far c ps)
  near_things c [] = tt
  near_things c (None ∷ ps) = near_things c ps
  near_things c (Some e ∷ ps) = (omega (arith, fits e.bounds), near_things c ps)

  near_picks : (n : Node) → All (λ x. Near (row x)) (picks_in far n)
  near_picks n = cond_both (eqb n.level 0) (things far Pick n.places) [] (All (λ x. Near (row x))) (λ _. near_things Pick n.places) (λ _. tt)

  pub near_ranking : All Near (ranking m far)
  near_ranking =
      all_sorted row_before Near (rows m far)
      (All-map Near row (flat_map (picks_in far) m.nodes)
      (all_join (λ x. Near (row x)) (picks_in far) m.nodes (all_every (λ n. All (λ x. Near (row x)) (picks_in far n)) near_picks m.nodes)))

one_row : {R : Type 0} (a : Answer R) (r : R) → row_in a ≡ Some r → rows_in (a ∷ []) ≡ r ∷ []
one_row (none o) r e = absurd cc
one_row (told x o) r e = let f : x ≡ r = cc in ap (λ z. z ∷ []) f
one_row (counts n o) r e = absurd cc

abbrev first_of : List Row → Option Row
first_of = first_within (λ r. r.distance) unlimited

-- a row told is the first of those that are left
some_left : (rs : List Row) (r : Row) → first_of rs ≡ Some r → (rest : List Row) × (rs ≡ r ∷ rest)
some_left [] r e = absurd cc
some_left (x ∷ xs) r e = (xs, ap (λ z. z ∷ xs) (at (leb x.distance unlimited) e))
  where
    at : (b : Bool) → cond b (Some x) None ≡ Some r → x ≡ r
    at true f = cc
    at false f = absurd cc

-- and where none is told none is left
none_left : (rs : List Row) → All Near rs → first_of rs ≡ None → rs ≡ []
none_left [] h e = refl
none_left (x ∷ xs) h e = let f : Some x ≡ None = ap (λ b. cond b (Some x) None) (sym (le-leb x.distance unlimited h.0)) ∙ e in absurd cc

laid_more : (rows : List Row) (r : Row) (before : List ToldRow) → length rows < length before →
    set (laid rows before) (length rows) (told_row r) ≡ laid (rows ++ r ∷ []) before
laid_more [] r [] h = absurd (omega arith)
laid_more [] r (b ∷ bs) h = refl
laid_more (x ∷ xs) r [] h = absurd (omega arith)
laid_more (x ∷ xs) r (b ∷ bs) h = ap (λ l. told_row x ∷ l) (laid_more xs r bs (omega arith))

-- After k rows: some turns led here, told just these rows, and the others are left.
pub record Telling (m : Model) (far : Far) (s : Standing Thing) (before now : List ToldRow) (k : ℕ) : Type 0 where
  pub earlier : List Turn
  pub untold : List Row
  pub led : stands_after m far (opening m) earlier ≡ s
  pub whole : rows_in (answers m far earlier) ++ untold ≡ ranking m far
  pub count : length (rows_in (answers m far earlier)) ≡ k
  pub written : now ≡ laid (rows_in (answers m far earlier)) before

module _ (m : Model) (far : Far) (before : List ToldRow) where
  abbrev turn : Turn
  turn = taken Day (Next unlimited)

  -- one call more, which answers this reply
  module _ (s t : Standing Thing) (now : List ToldRow) (k : ℕ) (h : Telling m far s before now k) (reply : Reply)
      (follows : next_of m far unlimited s ≡ (reply, t)) (nearest : TellsNearest m far s unlimited reply) (acc : Accepted m) where
    abbrev so_far : List Row
    so_far = rows_in (answers m far h.earlier)

    from_here : next_of m far unlimited (stands_after m far (opening m) h.earlier) ≡ (reply, t)
    from_here = ap (next_of m far unlimited) h.led ∙ follows

    answers_more : answers m far (h.earlier ++ turn ∷ []) ≡ answers m far h.earlier ++ answer_in reply ∷ []
    answers_more =
        ap (map answer_in) (answers_append (turned m far) (opening m) h.earlier (turn ∷ []))
        ∙ map-append answer_in (replies_from m far (opening m) h.earlier) ((next_of m far unlimited (stands_after m far (opening m) h.earlier)).0 ∷ [])
        ∙ ap (λ p. answers m far h.earlier ++ answer_in p.0 ∷ []) from_here

    rows_more : (r : Row) → row_in (answer_in reply) ≡ Some r → rows_in (answers m far (h.earlier ++ turn ∷ [])) ≡ so_far ++ r ∷ []
    rows_more r e =
        ap rows_in answers_more ∙ rows_append (answers m far h.earlier) (answer_in reply ∷ [])
        ∙ ap (λ l. so_far ++ l) (one_row (answer_in reply) r e)

    left_first : row_in (answer_in reply) ≡ first_of h.untold
    left_first = (nearest acc h.earlier h.led h.untold h.whole).1

    pub tells_more : (r : Row) → Some r ≡ row_in (answer_in reply) → k < length before → Telling m far t before (set now k (told_row r)) (k + 1)
    tells_more r is lt =
        let left = some_left h.untold r (sym left_first ∙ sym is) in
        let e = rows_more r (sym is) in
        record {
          earlier = h.earlier ++ turn ∷ [];
          untold = left.0;
          led = standing_append (turned m far) (opening m) h.earlier (turn ∷ []) ∙ ap (λ p. p.1) from_here;
          whole = ap (λ l. l ++ left.0) e ∙ append_assoc so_far (r ∷ []) left.0 ∙ ap (λ l. so_far ++ l) (sym left.1) ∙ h.whole;
          count = ap length e ∙ length_push so_far r ∙ ap (λ n. n + 1) h.count;
          written =
              (λ i. set (h.written i) (sym h.count i) (told_row r)) ∙ laid_more so_far r before (omega (arith, h.count))
              ∙ ap (λ l. laid l before) (sym e);
        }

    -- no row is left
    pub ends_short : FitsWord far → None ≡ row_in (answer_in reply) → k ≤ length before →
        (k ≡ length (take (length before) (ranking m far))) × (now ≡ laid (take (length before) (ranking m far)) before)
    ends_short fits is le =
        let near = all_right Near so_far h.untold (subst (All Near) (sym h.whole) (near_ranking m far fits)) in
        let e : so_far ≡ ranking m far = sym (append-nil so_far) ∙ ap (λ l. so_far ++ l) (sym (none_left h.untold near (sym left_first ∙ sym is))) ∙ h.whole in
        let f : so_far ≡ take (length before) (ranking m far) = sym (take_all (length before) so_far (omega (arith, h.count))) ∙ ap (take (length before)) e in
        (sym h.count ∙ ap length f, h.written ∙ ap (λ l. laid l before) f)
