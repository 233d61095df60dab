-- The law of search, over turns and their answers: no word of trees, glances or what waits.
use Rattle.std.specs.Prelude.{◌≡◌, ℕ, ◌≤◌, max, cond, leb, List, [], ◌∷◌, ◌++◌, map, length, Some, None, count_by, Option, nat_le}
use Rattle.std.specs.List.{ContainsAt as Has, AllByRecursion}
use Rattle.search.specs.declared.turn.Call.{Call}
use Rattle.search.specs.declared.turn.Call.TheVariants.{Next, Report}
use Rattle.search.specs.declared.turn.Turn.{Turn}
use Rattle.search.specs.Answer.{Answer, none, told, counts, opened_in, row_in, rows_in}

-- What is searched: how far each row is, all rows in the order in which they are due, how far each node is, and a limit that no row is
-- beyond.
pub record Space (R : Type 0) : Type 0 where
  pub distance : R → ℕ
  pub ranking : List R
  pub nodes : List ℕ
  pub unlimited : ℕ

-- a turn and its answer
abbrev pub Exchange : Type 0 → Type 0
Exchange R = Turn × Answer R

abbrev pub exchanges : {R : Type 0} → List Turn → List (Answer R) → List (Exchange R)
exchanges [] qs = []
exchanges (u ∷ us) [] = []
exchanges (u ∷ us) (q ∷ qs) = (u, q) ∷ exchanges us qs

-- the rows told, in order
abbrev pub rows_told : {R : Type 0} → List (Exchange R) → List R
rows_told es = rows_in (map (λ e. e.1) es)

-- how far one answer shows that the search has come: the distance told, or the limit that was answered none
abbrev pub reach : {R : Type 0} → (R → ℕ) → Call → Answer R → Option ℕ
reach distance (Next limit) (none o) = Some limit
reach distance (Next limit) (told r o) = Some (distance r)
reach distance (Next limit) (counts n o) = None
reach distance Report q = None

abbrev pub greater : Option ℕ → Option ℕ → Option ℕ
greater None h = h
greater (Some g) None = Some g
greater (Some g) (Some h) = Some (max g h)

-- the greatest distance told or limit answered none, if there is any
abbrev pub reached : {R : Type 0} → (R → ℕ) → List (Exchange R) → Option ℕ
reached distance [] = None
reached distance (e ∷ es) = greater (reach distance e.0.call e.1) (reached distance es)

-- how many nodes are no farther than the search has come
abbrev pub opened_by : List ℕ → Option ℕ → ℕ
opened_by nodes None = 0
opened_by nodes (Some g) = count_by (λ d. leb d g) nodes

-- What the answer to a call must be, after these rows: a row is within the limit; at none, each row within the limit was told before.
abbrev pub Fits : {R : Type 0} → Space R → List R → Call → Answer R → Type 0
Fits p rows (Next limit) (none o) = AllByRecursion (λ r. p.distance r ≤ limit → Has rows r) p.ranking
Fits p rows (Next limit) (told r o) = p.distance r ≤ limit
Fits p rows (Next limit) (counts n o) = ⊥
Fits p rows Report (none o) = ⊥
Fits p rows Report (told r o) = ⊥
Fits p rows Report (counts n o) = n ≡ length rows

-- Each exchange, after those before it, is an answer to its call, and the count opened is that of all nodes no farther than the search has
-- come with this answer.
abbrev pub AllFit : {R : Type 0} → Space R → List (Exchange R) → List (Exchange R) → Type 0
AllFit p earlier [] = Unit {0}
AllFit p earlier (e ∷ later) =
    Fits p (rows_told earlier) e.0.call e.1 × (opened_in e.1 ≡ opened_by p.nodes (reached p.distance (earlier ++ e ∷ []))) × AllFit p (earlier ++ e ∷ []) later

-- a `next` with a limit that no row is beyond
abbrev pub Unlimited : {R : Type 0} → Space R → Turn → Type 0
Unlimited p u = u.call ≡ Next p.unlimited

-- What must hold of turns and what they were answered; `answers` gives the answers to any list of turns from the same start.
pub record Obeys {R : Type 0} (p : Space R) (answers : List Turn → List (Answer R)) (turns : List Turn) (qs : List (Answer R)) : Type 0 where
  -- one answer to a turn
  pub each : length qs ≡ length turns
  -- the rows told begin the ranking
  pub ranked : (rest : List R) × (rows_in qs ++ rest ≡ p.ranking)
  pub fit : AllFit p [] (exchanges turns qs)
  -- as many further turns without limit as rows are left tell just these, one each, and no turn after them tells any
  pub complete : (rest : List R) → rows_in qs ++ rest ≡ p.ranking → (nexts more : List Turn) → length nexts ≡ length rest → AllByRecursion (Unlimited p) nexts →
      map row_in (answers (turns ++ (nexts ++ more))) ≡ map row_in qs ++ (map Some rest ++ map (λ _. None) more)

-- the first of these rows, if it is within the limit
abbrev pub first_within : {R : Type 0} → (R → ℕ) → ℕ → List R → Option R
first_within distance limit [] = None
first_within distance limit (r ∷ rest) = cond (nat_le (distance r) limit) (Some r) None
