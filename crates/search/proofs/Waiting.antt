-- Lists in order: what an insertion keeps, and that things that stand in order can stand in one order only.
use Rattle.std.proofs.Common.{◌≡◌, ℕ, ◌+◌, Bool, true, false, cond, not, List, [], ◌∷◌, ◌++◌, map, length, sym, refl, ap, ◌∙◌, subst, ⊎_elim, arith}
use Rattle.std.specs.List.{AllByRecursion as All}
use Rattle.std.proofs.lemmas.Bool.{cond_both, cond-false, cases_Bool, both_ways}
use Rattle.std.proofs.ByRecursion.{All-weaker, All-append}
use Rattle.std.proofs.lemmas.List.{append-nil, append_assoc}
use Rattle.search.specs.Waiting.{insert, inserts, sorted}
use Rattle.search.proofs.Lists.{total, Alike, one, total_none, length_total, all_right}

-- no element comes before one in front of it
abbrev pub Rising : {X : Type 0} → (X → X → Bool) → List X → Type 0
Rising before [] = Unit {0}
Rising before (x ∷ xs) = All (λ y. before y x ≡ false) xs × Rising before xs

module _ {X : Type 0} (before : X → X → Bool) where
  pub all_insert : (P : X → Type 0) (x : X) (ys : List X) → P x → All P ys → All P (insert before x ys)
  all_insert P x [] p h = (p, tt)
  all_insert P x (y ∷ ys) p h =
      cond_both (before x y) (x ∷ y ∷ ys) (y ∷ insert before x ys) (All P) (λ _. (p, h)) (λ _. (h.0, all_insert P x ys p h.1))

  pub all_inserts : (P : X → Type 0) (xs ys : List X) → All P xs → All P ys → All P (inserts before xs ys)
  all_inserts P [] ys h k = k
  all_inserts P (x ∷ xs) ys h k = all_inserts P xs (insert before x ys) h.1 (all_insert P x ys h.0 k)

  pub all_sorted : (P : X → Type 0) (xs : List X) → All P xs → All P (sorted before xs)
  all_sorted P xs h = all_inserts P xs [] h tt

  pub total_insert : (f : X → ℕ) (x : X) (ys : List X) → total f (insert before x ys) ≡ f x + total f ys
  total_insert f x [] = refl
  total_insert f x (y ∷ ys) =
      cond_both (before x y) (x ∷ y ∷ ys) (y ∷ insert before x ys) (λ zs. total f zs ≡ f x + (f y + total f ys)) (λ _. refl)
      (λ _. omega (arith, total_insert f x ys))

  pub total_inserts : (f : X → ℕ) (xs ys : List X) → total f (inserts before xs ys) ≡ total f xs + total f ys
  total_inserts f [] ys = omega arith
  total_inserts f (x ∷ xs) ys = omega (arith, total_inserts f xs (insert before x ys), total_insert f x ys)

  pub sorted_alike : (xs : List X) → Alike (sorted before xs) xs
  sorted_alike xs f = omega (arith, total_inserts f xs [])

  pub length_inserts : (xs ys : List X) → length (inserts before xs ys) ≡ length xs + length ys
  length_inserts xs ys =
      omega (arith, total_inserts (λ _. 1) xs ys, length_total (inserts before xs ys), length_total xs, length_total ys)

-- another order of other things: the insertions keep step where the two orders agree
module _ {X Y : Type 0} (before : X → X → Bool) (before' : Y → Y → Bool) (f : X → Y) (P : X → Type 0) (agree : (x y : X) → P x → P y → before x y ≡ before' (f x) (f y)) where
  map_cond : (b : Bool) (us vs : List X) → map f (cond b us vs) ≡ cond b (map f us) (map f vs)
  map_cond true us vs = refl
  map_cond false us vs = refl

  pub map_insert : (x : X) (ys : List X) → P x → All P ys → map f (insert before x ys) ≡ insert before' (f x) (map f ys)
  map_insert x [] p h = refl
  map_insert x (y ∷ ys) p h =
      map_cond (before x y) (x ∷ y ∷ ys) (y ∷ insert before x ys)
      ∙ (λ i. cond (agree x y p h.0 i) (f x ∷ f y ∷ map f ys) (f y ∷ map_insert x ys p h.1 i))

  pub map_inserts : (xs ys : List X) → All P xs → All P ys → map f (inserts before xs ys) ≡ inserts before' (map f xs) (map f ys)
  map_inserts [] ys h k = refl
  map_inserts (x ∷ xs) ys h k =
      map_inserts xs (insert before x ys) h.1 (all_insert before P x ys h.0 k)
      ∙ ap (inserts before' (map f xs)) (map_insert x ys h.0 k)

  pub map_sorted : (xs : List X) → All P xs → map f (sorted before xs) ≡ sorted before' (map f xs)
  map_sorted xs h = map_inserts xs [] h tt

module _ {X : Type 0} (before : X → X → Bool) (oneway : (x y : X) → before x y ≡ true → before y x ≡ false)
    (chain : (x y z : X) → before x y ≡ false → before y z ≡ false → before x z ≡ false) where
  pub not_itself : (x : X) → before x x ≡ false
  not_itself x = ⊎_elim (λ e. oneway x x e) (λ e. e) (cases_Bool (before x x))

  pub rising_insert : (x : X) (ys : List X) → Rising before ys → Rising before (insert before x ys)
  rising_insert x [] h = (tt, tt)
  rising_insert x (y ∷ ys) h =
      cond_both (before x y) (x ∷ y ∷ ys) (y ∷ insert before x ys) (Rising before)
      (λ e. let k = oneway x y e in ((k, All-weaker (λ z. before z y ≡ false) (λ z. before z x ≡ false) (λ z j. chain z y x j k) ys h.0), h))
      (λ e. (all_insert before (λ z. before z y ≡ false) x ys e h.0, rising_insert x ys h.1))

  pub rising_inserts : (xs ys : List X) → Rising before ys → Rising before (inserts before xs ys)
  rising_inserts [] ys h = h
  rising_inserts (x ∷ xs) ys h = rising_inserts xs (insert before x ys) (rising_insert x ys h)

  pub rising_sorted : (xs : List X) → Rising before (sorted before xs)
  rising_sorted xs = rising_inserts xs [] tt

  pub rising_append : (xs ys : List X) → Rising before xs → Rising before ys → All (λ x. All (λ y. before y x ≡ false) ys) xs → Rising before (xs ++ ys)
  rising_append [] ys h k l = k
  rising_append (x ∷ xs) ys h k l = (both h.0 l.0, rising_append xs ys h.1 k l.1)
    where
      both : All (λ y. before y x ≡ false) xs → All (λ y. before y x ≡ false) ys → All (λ y. before y x ≡ false) (xs ++ ys)
      both a b = All-append (λ y. before y x ≡ false) xs ys a b

  -- what is in order stays as it is
  insert_last : (x : X) (ys : List X) → All (λ y. before x y ≡ false) ys → insert before x ys ≡ ys ++ x ∷ []
  insert_last x [] h = refl
  insert_last x (y ∷ ys) h = cond-false (before x y) (x ∷ y ∷ ys) (y ∷ insert before x ys) h.0 ∙ ap (λ zs. y ∷ zs) (insert_last x ys h.1)

  after_front : (x : X) (xs ys : List X) → Rising before (ys ++ x ∷ xs) → All (λ y. before x y ≡ false) ys
  after_front x xs [] h = tt
  after_front x xs (y ∷ ys) h = ((all_right (λ z. before z y ≡ false) ys (x ∷ xs) h.0).0, after_front x xs ys h.1)

  inserts_rising : (xs ys : List X) → Rising before (ys ++ xs) → inserts before xs ys ≡ ys ++ xs
  inserts_rising [] ys h = sym (append-nil ys)
  inserts_rising (x ∷ xs) ys h =
      ap (inserts before xs) (insert_last x ys (after_front x xs ys h))
      ∙ inserts_rising xs (ys ++ x ∷ []) (subst (Rising before) (sym (append_assoc ys (x ∷ []) xs)) h)
      ∙ append_assoc ys (x ∷ []) xs

  pub sorted_rising : (xs : List X) → Rising before xs → sorted before xs ≡ xs
  sorted_rising xs h = inserts_rising xs [] h

  -- what stands first in order comes before nothing that another order of the same things begins with
  leads : (a b : X) (xs ys : List X) → Rising before (b ∷ ys) → Alike (a ∷ xs) (b ∷ ys) → before a b ≡ false
  leads a b xs ys r h =
      ⊎_elim
      (λ e.
      let f : X → ℕ = λ z. one (not (before a z)) in
      let later : (z : X) → before z b ≡ false → f z ≡ 0 =
      λ z k. ⊎_elim (λ i. ap (λ v. one (not v)) i) (λ i. absurd (both_ways (before a b) (chain a z b i k) e)) (cases_Bool (before a z)) in
      let p : f a ≡ 1 = ap (λ v. one (not v)) (not_itself a) in
      let q : f b ≡ 0 = ap (λ v. one (not v)) e in
      absurd (omega (arith, h f, p, q, total_none f ys (All-weaker (λ z. before z b ≡ false) (λ z. f z ≡ 0) later ys r.0))))
      (λ e. e)
      (cases_Bool (before a b))

  module _ (P : X → Type 0) (same : (x y : X) → P x → P y → before x y ≡ false → before y x ≡ false → x ≡ y) where
    pub one_order : (xs ys : List X) → All P xs → All P ys → Rising before xs → Rising before ys → Alike xs ys → xs ≡ ys
    one_order [] [] p q r s h = refl
    one_order [] (y ∷ ys) p q r s h = absurd (omega (arith, h (λ _. 1)))
    one_order (x ∷ xs) [] p q r s h = absurd (omega (arith, h (λ _. 1)))
    one_order (x ∷ xs) (y ∷ ys) p q r s h =
        let e : x ≡ y = same x y p.0 q.0 (leads x y xs ys s h) (leads y x ys xs r (λ f. sym (h f))) in
        let k = one_order xs ys p.1 q.1 r.1 s.1 (λ f. omega (arith, h f, ap f e)) in
        λ i. e i ∷ k i

    pub alike_sorted : (xs ys : List X) → All P xs → All P ys → Alike xs ys → sorted before xs ≡ sorted before ys
    alike_sorted xs ys p q h =
        one_order (sorted before xs) (sorted before ys) (all_sorted before P xs p) (all_sorted before P ys q) (rising_sorted xs) (rising_sorted ys)
        (λ f. sorted_alike before xs f ∙ h f ∙ sym (sorted_alike before ys f))
