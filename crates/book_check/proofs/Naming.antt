-- Which place names what: the tests and what they say.
use Rattle.std.proofs.Common.{◌≡◌, ℕ, ◌+◌, ◌<◌, Bool, true, false, ◌||◌, ◌⊎◌, length, sym, refl, ap, ◌∙◌, inl, inr, ⊎_elim, add-one, arith, Some, None, Option}
use Rattle.std.proofs.lemmas.List.{get_or_past}
use Rattle.std.proofs.lemmas.Bool.{false≢true, cases_lt, eqb-true, eq-eqb, or_cases, or_left, or_right}
use Rattle.book.specs.Model.{Model, node_count, place_count, place_of, places_of, no_node}
use Rattle.book.specs.declared.place.Entry.{Entry}
use Rattle.book_check.specs.Targets.{target_of, same}
use Rattle.book_check.specs.Names.{names_in, names, named_within, named_below, named_before, is_named}
use Rattle.book_check.specs.Accepted.{Stands, Names}
use Rattle.book_check.specs.declared.target.Target.{Target}
use Rattle.book_check.specs.declared.target.Target.TheVariants.{Pick, Child}
use Rattle.book_check.proofs.Belows.{some_found, some_at}

same_is : (t u : Target) → same t u ≡ true → t ≡ u
same_is (Pick p) (Pick q) h = ap Pick (eqb-true p q h)
same_is (Pick p) (Child k) h = absurd (false≢true h)
same_is (Child k) (Pick p) h = absurd (false≢true h)
same_is (Child k) (Child l) h = ap Child (eqb-true k l h)

is_same : (t : Target) → same t t ≡ true
is_same (Pick p) = eq-eqb p p refl
is_same (Child k) = eq-eqb k k refl

-- ---- only places of the book hold entries

pub place_there : (m : Model) (n i : ℕ) (e : Entry) → Stands m n i e → i < place_count m n
place_there m n i e h =
    ⊎_elim (λ l. l) (λ l. let z : ◌≡◌ {A = ℕ} 0 1 = cc (get_or_past (places_of m n) i None l) in absurd (omega arith)) (cases_lt i (place_count m n))

pub node_there : (m : Model) (n i : ℕ) → i < place_count m n → n < node_count m
node_there m n i h =
    ⊎_elim (λ l. l) (λ l. let z : place_count m n ≡ 0 = ap (λ nd. length nd.places) (get_or_past m.nodes n no_node l) in absurd (omega arith)) (cases_lt n (node_count m))

-- ---- a place names t

in_names : (m : Model) (n i : ℕ) (t : Target) (p : Option Entry) → place_of m n i ≡ p → names_in m n p t ≡ true → Names m n i t
in_names m n i t None e h = absurd (false≢true h)
in_names m n i t (Some f) e h = (f, e, sym (same_is t (target_of m n f) h))

pub names_says : (m : Model) (n i : ℕ) (t : Target) → names m n i t ≡ true → Names m n i t
unfolding names
names_says m n i t h = in_names m n i t (place_of m n i) refl h

pub says_names : (m : Model) (n i : ℕ) (t : Target) → Names m n i t → names m n i t ≡ true
unfolding names
says_names m n i t (e, s, q) = ap (λ p. names_in m n p t) s ∙ ap (same t) q ∙ is_same t

-- what a place that holds an entry names
pub names_at : (m : Model) (n i : ℕ) (e : Entry) (t u : Target) → Stands m n i e → target_of m n e ≡ t → names m n i u ≡ same u t
unfolding names
names_at m n i e t u s q = ap (λ p. names_in m n p u) s ∙ ap (same u) q

-- ---- some place names t

pub record Named-by (m : Model) (t : Target) (Q : ℕ → ℕ → Type 0) : Type 0 where
  pub node : ℕ
  pub place : ℕ
  pub where_is : Q node place
  pub names : Names m node place t

-- (n, i) comes before (k, j)
abbrev pub Before : ℕ → ℕ → ℕ → ℕ → Type 0
Before n i k j = (n < k) ⊎ ((n ≡ k) × (i < j))

below_found : (m : Model) (n : ℕ) (t : Target) → named_below m n t ≡ true → Named-by m t (λ k j. k < n)
below_found m n t h =
    let r = some_found (λ k. named_within m k (place_count m k) t) n h in
    let q = some_found (λ j. names m r.0 j t) (place_count m r.0) r.2 in
    record { node = r.0; place = q.0; where_is = r.1; names = names_says m r.0 q.0 t q.2 }

below_at : (m : Model) (n k j : ℕ) (t : Target) → k < n → Names m k j t → named_below m n t ≡ true
below_at m n k j t l h =
    some_at (λ k. named_within m k (place_count m k) t) n k l
    (some_at (λ j. names m k j t) (place_count m k) j (place_there m k j h.0 h.1) (says_names m k j t h))

pub before_found : (m : Model) (n i : ℕ) (t : Target) → named_before m n i t ≡ true → Named-by m t (λ k j. Before k j n i)
unfolding named_before
before_found m n i t h =
    ⊎_elim
    (λ e. let q = some_found (λ j. names m n j t) i e in record { node = n; place = q.0; where_is = inr (refl, q.1); names = names_says m n q.0 t q.2 })
    (λ e. let r = below_found m n t e in record { node = r.node; place = r.place; where_is = inl r.where_is; names = r.names })
    (or_cases (named_within m n i t) (named_below m n t) h)

pub before_at : (m : Model) (n i k j : ℕ) (t : Target) → Before k j n i → Names m k j t → named_before m n i t ≡ true
unfolding named_before
before_at m n i k j t (inl l) h = or_right (named_within m n i t) (named_below m n t) (below_at m n k j t l h)
before_at m n i k j t (inr (e, l)) h =
    or_left (named_within m n i t) (named_below m n t)
    (some_at (λ j. names m n j t) i j l (ap (λ x. names m x j t) (sym e) ∙ says_names m k j t h))

pub named_found : (m : Model) (t : Target) → is_named m t ≡ true → Named-by m t (λ k j. k < node_count m)
unfolding is_named
named_found m t h = below_found m (node_count m) t h

pub named_at : (m : Model) (k j : ℕ) (t : Target) → Names m k j t → is_named m t ≡ true
unfolding is_named
named_at m k j t h = below_at m (node_count m) k j t (node_there m k j (place_there m k j h.0 h.1)) h

-- ---- the steps of the scan

or_assoc : (a b c : Bool) → (a || b) || c ≡ a || (b || c)
or_assoc true b c = refl
or_assoc false b c = refl

pub before_none : (m : Model) (t : Target) → named_before m 0 0 t ≡ false
unfolding named_before
before_none m t = refl

pub before_more : (m : Model) (n i : ℕ) (u : Target) → named_before m n (i + 1) u ≡ (names m n i u || named_before m n i u)
unfolding named_before
before_more m n i u =
    ap (λ k. named_within m n k u || named_below m n u) (add-one i) ∙ or_assoc (names m n i u) (named_within m n i u) (named_below m n u)

pub before_node : (m : Model) (n : ℕ) (u : Target) → named_before m (n + 1) 0 u ≡ named_before m n (place_count m n) u
unfolding named_before
before_node m n u = ap (λ k. named_below m k u) (add-one n)

pub before_all : (m : Model) (n : ℕ) (u : Target) → n ≡ node_count m → named_before m n 0 u ≡ is_named m u
unfolding named_before is_named
before_all m n u e = ap (λ k. named_below m k u) e
