-- The law carried over to rows put another way: what is true of things is true of the rows that are made of them.
use Rattle.std.proofs.Common.{◌≡◌, ℕ, ◌≤◌, leb, List, [], ◌∷◌, ◌++◌, map, length, Some, None, count_by, Option, sym, refl, ap, ◌∙◌, subst, arith}
use Rattle.std.specs.List.{ContainsAt as Has, AllByRecursion as All}
use Rattle.std.proofs.ByRecursion.{All-weaker, All-map}
use Rattle.std.proofs.lemmas.List.{append_cancel_left, length-map, map-append}
use Rattle.search.specs.declared.turn.Call.{Call}
use Rattle.search.specs.declared.turn.Call.TheVariants.{Next, Report}
use Rattle.search.specs.declared.turn.Turn.{Turn}
use Rattle.search.specs.Answer.{Answer, none, told, counts, opened_in, row_in, rows_in, reworded}
use Rattle.search.specs.Law.{Space, Exchange, exchanges, rows_told, reach, greater, reached, opened_by, Fits, AllFit, Unlimited, Obeys}
use Rattle.search.proofs.Lists.{has_map, map_map, map_same}

abbrev optionally : {X R : Type 0} → (X → R) → Option X → Option R
optionally f None = None
optionally f (Some x) = Some (f x)

module _ {X R : Type 0} (f : X → R) (p : Space X) (q : Space R) (distances : (x : X) → q.distance (f x) ≡ p.distance x) (rankings : map f p.ranking ≡ q.ranking)
    (nodes : (g : ℕ) → count_by (λ d. leb d g) p.nodes ≡ count_by (λ d. leb d g) q.nodes) (limits : p.unlimited ≡ q.unlimited) where
  abbrev say : Answer X → Answer R
  say = reworded f

  abbrev over : Exchange X → Exchange R
  over e = (e.0, say e.1)

  row_said : (a : Answer X) → row_in (say a) ≡ optionally f (row_in a)
  row_said (none o) = refl
  row_said (told x o) = refl
  row_said (counts n o) = refl

  opened_said : (a : Answer X) → opened_in (say a) ≡ opened_in a
  opened_said (none o) = refl
  opened_said (told x o) = refl
  opened_said (counts n o) = refl

  rows_said : (qs : List (Answer X)) → rows_in (map say qs) ≡ map f (rows_in qs)
  rows_said [] = refl
  rows_said (none o ∷ qs) = rows_said qs
  rows_said (told x o ∷ qs) = ap (λ rs. f x ∷ rs) (rows_said qs)
  rows_said (counts n o ∷ qs) = rows_said qs

  told_said : (es : List (Exchange X)) → rows_told (map over es) ≡ map f (rows_told es)
  told_said es = ap rows_in (map_map (λ e. e.1) over es ∙ sym (map_map say (λ e. e.1) es)) ∙ rows_said (map (λ e. e.1) es)

  reach_said : (c : Call) (a : Answer X) → reach q.distance c (say a) ≡ reach p.distance c a
  reach_said (Next l) (none o) = refl
  reach_said (Next l) (told x o) = ap Some (distances x)
  reach_said (Next l) (counts n o) = refl
  reach_said Report a = refl

  reached_said : (es : List (Exchange X)) → reached q.distance (map over es) ≡ reached p.distance es
  reached_said [] = refl
  reached_said (e ∷ es) = λ i. greater (reach_said e.0.call e.1 i) (reached_said es i)

  opened_same : (g : Option ℕ) → opened_by q.nodes g ≡ opened_by p.nodes g
  opened_same None = refl
  opened_same (Some g) = sym (nodes g)

  fits_said : (rows : List X) (c : Call) (a : Answer X) → Fits p rows c a → Fits q (map f rows) c (say a)
  fits_said rows (Next l) (none o) h =
      subst (All (λ r. q.distance r ≤ l → Has (map f rows) r)) rankings
      (All-map (λ r. q.distance r ≤ l → Has (map f rows) r) f p.ranking
      (All-weaker (λ x. p.distance x ≤ l → Has rows x) (λ x. q.distance (f x) ≤ l → Has (map f rows) (f x)) (λ x k i. has_map f rows x (k (omega (arith, i, distances x)))) p.ranking h))
  fits_said rows (Next l) (told x o) h = omega (arith, h, distances x)
  fits_said rows (Next l) (counts n o) h = h
  fits_said rows Report (none o) h = h
  fits_said rows Report (told x o) h = h
  fits_said rows Report (counts n o) h = h ∙ sym (length-map rows f)

  all_said : (es earlier : List (Exchange X)) → AllFit p earlier es → AllFit q (map over earlier) (map over es)
  all_said [] earlier h = tt
  all_said (e ∷ es) earlier h =
      let more : map over (earlier ++ e ∷ []) ≡ map over earlier ++ over e ∷ [] = map-append over earlier (e ∷ []) in (
        subst (λ rows. Fits q rows e.0.call (say e.1)) (sym (told_said earlier)) (fits_said (rows_told earlier) e.0.call e.1 h.0),
        opened_said e.1 ∙ h.1 ∙ sym (opened_same (reached p.distance (earlier ++ e ∷ []))) ∙ ap (opened_by q.nodes) (sym (reached_said (earlier ++ e ∷ [])) ∙ ap (reached q.distance) more),
        subst (λ before. AllFit q before (map over es)) more (all_said es (earlier ++ e ∷ []) h.2),
      )

  exchanges_said : (us : List Turn) (qs : List (Answer X)) → exchanges us (map say qs) ≡ map over (exchanges us qs)
  exchanges_said [] qs = refl
  exchanges_said (u ∷ us) [] = refl
  exchanges_said (u ∷ us) (a ∷ qs) = ap (λ es. over (u, a) ∷ es) (exchanges_said us qs)

  row_in_said : (qs : List (Answer X)) → map row_in (map say qs) ≡ map (optionally f) (map row_in qs)
  row_in_said qs = map_map row_in say qs ∙ map_same (λ a. row_in (say a)) (λ a. optionally f (row_in a)) row_said qs ∙ sym (map_map (optionally f) row_in qs)

  module _ (answers : List Turn → List (Answer X)) (answers' : List Turn → List (Answer R)) (said : (us : List Turn) → answers' us ≡ map say (answers us)) where
    unlimited_said : (nexts : List Turn) → All (Unlimited q) nexts → All (Unlimited p) nexts
    unlimited_said nexts h = All-weaker (Unlimited q) (Unlimited p) (λ u e. e ∙ ap Next (sym limits)) nexts h

    pub carried : (us : List Turn) → Obeys p answers us (answers us) → Obeys q answers' us (answers' us)
    carried us h =
        let qs = answers us in
        let rows : rows_in (answers' us) ≡ map f (rows_in qs) = ap rows_in (said us) ∙ rows_said qs in
        let whole : (rest : List X) → rows_in qs ++ rest ≡ p.ranking → rows_in (answers' us) ++ map f rest ≡ q.ranking =
        λ rest e. ap (λ rs. rs ++ map f rest) rows ∙ sym (map-append f (rows_in qs) rest) ∙ ap (map f) e ∙ rankings in
        record {
          each = ap length (said us) ∙ length-map qs say ∙ h.each;
          ranked = (map f h.ranked.0, whole h.ranked.0 h.ranked.1);
          fit = subst (AllFit q []) (sym (ap (exchanges us) (said us) ∙ exchanges_said us qs)) (all_said (exchanges us qs) [] h.fit);
          complete = λ rest e nexts more n u.
              let rest₀ = h.ranked.0 in
              let same : map f rest₀ ≡ rest = append_cancel_left (rows_in (answers' us)) (map f rest₀) rest (whole rest₀ h.ranked.1 ∙ sym e) in
              let k = h.complete rest₀ h.ranked.1 nexts more (n ∙ ap length (sym same) ∙ length-map rest₀ f) (unlimited_said nexts u) in
              ap (map row_in) (said (us ++ (nexts ++ more)))
              ∙ row_in_said (answers (us ++ (nexts ++ more)))
              ∙ ap (map (optionally f)) k
              ∙ map-append (optionally f) (map row_in qs) (map Some rest₀ ++ map (λ _. None) more)
              ∙ ap (λ rs. rs ++ map (optionally f) (map Some rest₀ ++ map (λ _. None) more)) (sym (row_in_said qs) ∙ ap (map row_in) (sym (said us)))
              ∙ ap (λ rs. map row_in (answers' us) ++ rs)
              (map-append (optionally f) (map Some rest₀) (map (λ _. None) more)
              ∙ (λ i. (map_map (optionally f) Some rest₀ ∙ sym (map_map Some f rest₀) ∙ ap (map Some) same) i ++ map_map (optionally f) (λ _. None) more i));
        }
