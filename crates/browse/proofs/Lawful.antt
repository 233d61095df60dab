-- The law of browsing, from that of the search which a browse of an accepted book is.
use Rattle.std.proofs.Common.{◌≡◌, ℕ, Bool, true, false, cond, leb, List, [], ◌∷◌, ◌++◌, map, Some, None, Option, sym, refl, ap, ◌∙◌, subst}
use Rattle.std.specs.List.{AllByRecursion as All}
use Rattle.std.proofs.lemmas.List.{append_cancel_left, map-append, same_from_push}
use Rattle.std.proofs.ByRecursion.{All-map}
use Rattle.book.specs.Model.{Model, BookShape}
use Rattle.book_check.specs.Accepted.{Accepted}
use Rattle.search.specs.declared.turn.Hand.TheVariants.{Day}
use Rattle.search.specs.declared.turn.Call.TheVariants.{Next}
use Rattle.search.specs.declared.turn.Turn.{Turn}
use Rattle.search.specs.Tree as tree
use Rattle.search.specs.Answer.{Answer, none, told, counts, row_in, rows_in, reworded}
use Rattle.search.specs.Search.{Standing, start}
use Rattle.search.specs.Search as search
use Rattle.search.specs.Turns.{standing_after}
use Rattle.search.specs.Law.{first_within}
use Rattle.search.specs.Lawful.{space_of}
use Rattle.search.specs.Lawful as lawfulness
use Rattle.search.proofs.Lists.{map_map, all_every}
use Rattle.search.proofs.Turns.{answers_append}
use Rattle.search.proofs.Follows.{held_after}
use Rattle.search.proofs.Carried.{carried}
use Rattle.search.proofs.Law as searching
use Rattle.browse.specs.declared.answer.Row.{Row}
use Rattle.browse.specs.Thing.{Thing}
use Rattle.browse.specs.Tree.{Far, tree_of}
use Rattle.browse.specs.Browse.{row, opening, next_of, turned, replies_from}
use Rattle.browse.specs.Law.{ranking, field, unlimited, Answered, answer_in, answers, Browsed, Lawful, TellsNearest, Monotone, FitsWord}
use Rattle.browse.proofs.Members.{Member, book_members, book_ordered}
use Rattle.browse.proofs.Ranking.{same_ranking, same_distances, none_beyond}
use Rattle.browse.proofs.Follows.{say, next_is, replies_are, stands_are}

-- answers put in rows
abbrev optionally : Option Thing → Option Row
optionally None = None
optionally (Some x) = Some (row x)

row_said : (a : Answer Thing) → row_in (reworded row a) ≡ optionally (row_in a)
row_said (none o) = refl
row_said (told x o) = refl
row_said (counts n o) = refl

rows_said : (qs : List (Answer Thing)) → rows_in (map (reworded row) qs) ≡ map row (rows_in qs)
rows_said [] = refl
rows_said (none o ∷ qs) = rows_said qs
rows_said (told x o ∷ qs) = ap (λ rs. row x ∷ rs) (rows_said qs)
rows_said (counts n o ∷ qs) = rows_said qs

first_said : (limit : ℕ) (xs : List Thing) → optionally (first_within (λ x. x.distance) limit xs) ≡ first_within (λ r. r.distance) limit (map row xs)
first_said limit [] = refl
first_said limit (x ∷ xs) = at (leb x.distance limit)
  where
    at : (b : Bool) → optionally (cond b (Some x) None) ≡ cond b (Some (row x)) None
    at true = refl
    at false = refl

module _ (m : Model) (far : Far) (shape : BookShape m) (mono : Monotone far) (fits : FitsWord far) where
  abbrev t : tree.Tree Thing
  t = tree_of m far

  module _ (acc : Accepted m) where
    search_lawful : lawfulness.Lawful t unlimited
    search_lawful =
        searching.lawful t (Member m far) (book_members m far acc mono) (book_ordered m far acc) unlimited (none_beyond m far acc shape mono fits)

    ever : (turns : List Turn) → All Answered (replies_from m far (opening m) turns)
    ever turns =
        subst (All Answered) (sym (replies_are m far acc shape mono turns))
        (All-map Answered say (search.answers t turns) (all_every (λ a. Answered (say a)) (λ _. tt) (search.answers t turns)))

    answers_are : (turns : List Turn) → answers m far turns ≡ map (reworded row) (search.answers t turns)
    answers_are turns = ap (map answer_in) (replies_are m far acc shape mono turns) ∙ map_map answer_in say (search.answers t turns)

    -- of a browse just opened
    pub browsed : (turns : List Turn) → Browsed m far turns (replies_from m far (opening m) turns)
    browsed turns =
        record {
          unbroken = ever turns;
          ever = ever;
          obeys =
              carried row (space_of t unlimited) (field m far) (λ _. refl) (same_ranking m far acc shape mono) (same_distances m far acc shape mono) refl
              (search.answers t) (answers m far) answers_are turns (search_lawful turns);
        }

    -- of turns that lead to s, what is left to tell and what is told next
    module _ (earlier : List Turn) (limit : ℕ) where
      abbrev s : Standing Thing
      s = standing_after (search.turned t) (start t.root) earlier

      abbrev left : List Thing
      left = (search_lawful earlier).ranked.0

      left_rows : (untold : List Row) → rows_in (answers m far earlier) ++ untold ≡ ranking m far → map row left ≡ untold
      left_rows untold e =
          append_cancel_left (rows_in (answers m far earlier)) (map row left) untold
          (ap (λ rs. rs ++ map row left) (ap rows_in (answers_are earlier) ∙ rows_said (search.answers t earlier))
          ∙ sym (map-append row (rows_in (search.answers t earlier)) left) ∙ ap (map row) (search_lawful earlier).ranked.1
          ∙ same_ranking m far acc shape mono ∙ sym e)

      next_told : row_in (search.next t limit s).0 ≡ first_within (λ x. x.distance) limit left
      next_told =
          let u : Turn = record { hand = Day; call = Next limit } in
          let h = map row_in (search.answers t earlier) in
          (same_from_push h h (row_in (search.next t limit s).0) (first_within (λ x. x.distance) limit left)
          (sym (ap (map row_in) (answers_append (search.turned t) (start t.root) earlier (u ∷ [])) ∙ map-append row_in (search.answers t earlier) ((search.next t limit s).0 ∷ []))
          ∙ searching.nearest_is_told t (Member m far) (book_members m far acc mono) (book_ordered m far acc) earlier left (search_lawful earlier).ranked.1 u limit refl)
          ).1

      reply_is : (next_of m far limit s).0 ≡ say (search.next t limit s).0
      reply_is = ap (λ r. r.0) (next_is m far acc shape mono limit s (held_after t (Member m far) (book_members m far acc mono) say earlier))

  pub lawful : (s : Standing Thing) (turns : List Turn) → Lawful m far s turns (replies_from m far s turns)
  lawful s turns acc earlier e =
      subst (Browsed m far (earlier ++ turns))
      (answers_append (turned m far) (opening m) earlier turns ∙ ap (λ z. replies_from m far (opening m) earlier ++ replies_from m far z turns) e)
      (browsed acc (earlier ++ turns))

  pub nearest : (s : Standing Thing) (limit : ℕ) → TellsNearest m far s limit (next_of m far limit s).0
  nearest s limit acc earlier e untold whole =
      let r : (next_of m far limit s).0 ≡ say (search.next t limit (standing_after (search.turned t) (start t.root) earlier)).0 =
      ap (λ z. (next_of m far limit z).0) (sym e ∙ stands_are m far acc shape mono earlier) ∙ reply_is acc earlier limit in (
        subst Answered (sym r) tt,
        ap (λ z. row_in (answer_in z)) r ∙ row_said (search.next t limit (standing_after (search.turned t) (start t.root) earlier)).0
            ∙ ap optionally (next_told acc earlier limit) ∙ first_said limit (left acc earlier limit)
            ∙ ap (first_within (λ r. r.distance) limit) (left_rows acc earlier limit untold whole),
      )
