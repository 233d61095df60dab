-- What holds of a search between its turns, and that each turn keeps it.
use Rattle.std.proofs.Common.{◌≡◌, ℕ, zero, suc, ◌+◌, ◌-◌, ◌<◌, ◌≤◌, Bool, true, false, cond, not, leb, ◌⊎◌, List, [], ◌∷◌, ◌++◌, map, length, Some, None, filter, Option, sym, refl, ap, ◌∙◌, subst, inl, inr, ⊎_elim, arith}
use Rattle.std.specs.List.{flat_map, AllByRecursion as All}
use Rattle.std.proofs.lemmas.Bool.{cond_both, cases_Bool, cases_lt, both_ways, leb-true, leb-false, le-leb, lt-leb}
use Rattle.std.proofs.ByRecursion.{All-weaker, All-append, all_kept_by}
use Rattle.std.proofs.lemmas.List.{append-nil, length_push}
use Rattle.search.specs.declared.turn.Call.{Call}
use Rattle.search.specs.declared.turn.Call.TheVariants.{Next, Report}
use Rattle.search.specs.Waiting.{inserts}
use Rattle.search.specs.Tree.{Tree, below, nodes, finals, ranking}
use Rattle.search.specs.Answer.{Answer, none, told, counts, opened_in, rows_in}
use Rattle.search.specs.Glances.{Glance, done, on, onward, follow}
use Rattle.search.specs.Search.{Standing, start, open_first, tell_first, glance_at, glance, called}
use Rattle.search.specs.Law.{reach, greater, opened_by}
use Rattle.search.proofs.Lists.{total, Alike, one, total_append, total_joined, total_map, total_none, total_each, total_same, total_kept, length_total, count_by_total, all_both, all_every}
use Rattle.search.proofs.Waiting.{Rising, all_inserts, rising_inserts, rising_sorted, rising_append, sorted_alike, all_sorted, one_order}
use Rattle.search.proofs.Tree.{Members, Ordered, Below, total_below, pending, below_weaker, below_both, all_pending, total_below_none, all_below, members_below, outward_below, final_below, below_open, total_open}
use Rattle.search.proofs.Glances.{Ends, ends_finish}
use Rattle.search.proofs.Room.{stand}

abbrev pub Within : Option ℕ → ℕ → Type 0
Within None d = ⊥
Within (Some g) d = d ≤ g

abbrev pub Beyond : Option ℕ → ℕ → Type 0
Beyond None d = Unit {0}
Beyond (Some g) d = g < d

within_greater : (g h : Option ℕ) (d : ℕ) → Within g d ⊎ Within h d → Within (greater g h) d
within_greater None None d k = ⊎_elim (λ a. a) (λ a. a) k
within_greater None (Some h) d k = ⊎_elim (λ a. absurd a) (λ a. a) k
within_greater (Some g) None d k = ⊎_elim (λ a. a) (λ a. absurd a) k
within_greater (Some g) (Some h) d k = ⊎_elim (λ a. omega arith) (λ a. omega arith) k

beyond_greater : (g h : Option ℕ) (d : ℕ) → Beyond g d → Beyond h d → Beyond (greater g h) d
beyond_greater None h d a b = b
beyond_greater (Some g) None d a b = a
beyond_greater (Some g) (Some h) d a b = omega arith

pub greater_none : (g : Option ℕ) → greater g None ≡ g
greater_none None = refl
greater_none (Some g) = refl

-- After the rows `rows` and the nodes `os` opened, w waits: together they are the tree; the rows are in order, and no final in or below w
-- comes before one of them.
pub record Parted {X : Type 0} (t : Tree X) (Member : X → Type 0) (rows os w : List X) : Type 0 where
  pub rising : Rising t.before w
  pub members : All Member w
  pub whole : (f : X → ℕ) → total f rows + total f os + total_below t f w ≡ total f (below t t.root)
  pub rows_final : All (λ r. t.opens r ≡ false) rows
  pub rows_members : All Member rows
  pub rows_rising : Rising t.before rows
  pub rows_first : All (λ r. Below t (λ z. t.opens z ≡ false → t.before z r ≡ false) w) rows
  pub os_nodes : All (λ o. t.opens o ≡ true) os

-- A search that has come as far as g stands at s: every node opened is `Near`, every other node is beyond g.
pub record At {X : Type 0} (t : Tree X) (Member : X → Type 0) (rows : List X) (g : Option ℕ) (os : List X) (Near : X → Type 0) (s : Standing X) : Type 0 where
  pub parted : Parted t Member rows os s.waiting
  pub near : All Near os
  pub beyond : Below t (λ z. t.opens z ≡ true → Beyond g (t.distance z)) s.waiting
  pub opened : s.opened ≡ length os
  pub told : s.told ≡ length rows

-- between turns
abbrev pub Between : {X : Type 0} → Tree X → (X → Type 0) → List X → Option ℕ → List X → Standing X → Type 0
Between t Member rows g os s = At t Member rows g os (λ o. Within g (t.distance o)) s

-- while nodes are opened under a limit: a node just opened is no farther than all that waits
abbrev pub Midway : {X : Type 0} → Tree X → (X → Type 0) → ℕ → List X → Option ℕ → List X → Standing X → Type 0
Midway t Member l rows g os s =
    At t Member rows g os (λ o. Within g (t.distance o) ⊎ ((t.distance o ≤ l) × Below t (λ z. t.distance o ≤ t.distance z) s.waiting)) s

-- what an answer says of where the search stands then
abbrev pub Says : {X : Type 0} → Tree X → List X → Call → Answer X → Standing X → Type 0
Says t rows (Next l) (none o) s = Below t (λ z. l < t.distance z) s.waiting
Says t rows (Next l) (told x o) s = t.distance x ≤ l
Says t rows (Next l) (counts n o) s = ⊥
Says t rows Report (none o) s = ⊥
Says t rows Report (told x o) s = ⊥
Says t rows Report (counts n o) s = n ≡ length rows

pub record After {X : Type 0} (t : Tree X) (Member : X → Type 0) (rows : List X) (g : Option ℕ) (c : Call) (q : Answer X) (s : Standing X) : Type 0 where
  pub os : List X
  pub at : Between t Member (rows ++ rows_in (q ∷ [])) (greater g (reach t.distance c q)) os s
  pub count : opened_in q ≡ length os
  pub says : Says t rows c q s

module _ {X : Type 0} (t : Tree X) (Member : X → Type 0) (m : Members t Member) (o : Ordered t Member) where
  -- the rows and what is pending are the ranking
  pub ranks : (rows os w : List X) → Parted t Member rows os w → rows ++ pending t w ≡ ranking t
  ranks rows os w p =
      let F : X → Bool = λ z. not (t.opens z) in
      let zs = flat_map (below t) w in
      let left : All Member (pending t w) =
      all_pending t Member w (All-weaker Member (λ y. All (λ z. t.opens z ≡ false → Member z) (below t y)) (λ y k. all_below t Member m (λ z. t.opens z ≡ false → Member z) (λ z i _. i) y k) w p.members) in
      let later : All (λ r. All (λ z. t.before z r ≡ false) (pending t w)) rows =
      All-weaker (λ r. Below t (λ z. t.opens z ≡ false → t.before z r ≡ false) w) (λ r. All (λ z. t.before z r ≡ false) (pending t w)) (λ r k. all_pending t (λ z. t.before z r ≡ false) w k) rows
      p.rows_first in
      let alike : Alike (rows ++ pending t w) (ranking t) =
      λ f.
      let g : X → ℕ = λ z. cond (F z) (f z) 0 in
      omega (
        arith,
        p.whole g,
        total_append f rows (pending t w),
        sorted_alike t.before (filter F zs) f,
        total_kept F f zs,
        total_joined g (below t) w,
        sorted_alike t.before (finals t) f,
        total_kept F f (below t t.root),
        total_same g f rows (All-weaker (λ r. t.opens r ≡ false) (λ r. g r ≡ f r) (λ r e. ap (λ b. cond (not b) (f r) 0) e) rows p.rows_final),
        total_none g os (All-weaker (λ r. t.opens r ≡ true) (λ r. g r ≡ 0) (λ r e. ap (λ b. cond (not b) (f r) 0) e) os p.os_nodes),
      ) in
      one_order t.before o.oneway o.chain Member o.same (rows ++ pending t w) (ranking t)
      (All-append Member rows (pending t w) p.rows_members left)
      (all_sorted t.before Member (finals t) (all_kept_by F Member (below t t.root) (members_below t Member m t.root m.root)))
      (rising_append t.before o.oneway o.chain rows (pending t w) p.rows_rising (rising_sorted t.before o.oneway o.chain (filter F zs)) later)
      (rising_sorted t.before o.oneway o.chain (finals t)) alike

  -- the sum over the nodes of the tree, where `f` is 1 for those opened and 0 for those below w
  nodes_total : (rows os w : List X) → Parted t Member rows os w → (f : X → ℕ) → total f (nodes t) ≡ total f os + total_below t (λ z. cond (t.opens z) (f z) 0) w
  nodes_total rows os w p f =
      let g : X → ℕ = λ z. cond (t.opens z) (f z) 0 in
      omega (
        arith,
        p.whole g,
        total_kept t.opens f (below t t.root),
        total_none g rows (All-weaker (λ r. t.opens r ≡ false) (λ r. g r ≡ 0) (λ r e. ap (λ b. cond b (f r) 0) e) rows p.rows_final),
        total_same g f os (All-weaker (λ r. t.opens r ≡ true) (λ r. g r ≡ f r) (λ r e. ap (λ b. cond b (f r) 0) e) os p.os_nodes),
      )

  -- as many nodes were opened as are no farther than the search has come
  pub counted : (rows : List X) (g : Option ℕ) (os : List X) (s : Standing X) → Between t Member rows g os s → opened_by (map t.distance (nodes t)) g ≡ length os
  counted rows None [] s p = refl
  counted rows None (x ∷ os) s p = absurd p.near.0
  counted rows (Some g) os s p =
      let N : X → ℕ = λ z. one (leb (t.distance z) g) in
      let zero-beyond : (z : X) → (t.opens z ≡ true → g < t.distance z) → cond (t.opens z) (N z) 0 ≡ 0 =
      λ z k. cond_both (t.opens z) (N z) 0 (λ v. v ≡ 0) (λ e. ap one (lt-leb (t.distance z) g (k e))) (λ _. refl) in
      omega (
        arith,
        count_by_total (λ d. leb d g) (map t.distance (nodes t)),
        total_map (λ d. one (leb d g)) t.distance (nodes t),
        nodes_total rows os s.waiting p.parted N,
        total_each N os (All-weaker (λ r. t.distance r ≤ g) (λ r. N r ≡ 1) (λ r i. ap one (le-leb (t.distance r) g i)) os p.near),
        total_below_none t (λ z. cond (t.opens z) (N z) 0) s.waiting
            (below_weaker t (λ z. t.opens z ≡ true → g < t.distance z) (λ z. cond (t.opens z) (N z) 0 ≡ 0) zero-beyond s.waiting p.beyond),
      )

  no_farther : (x y : X) → t.before y x ≡ false → t.distance x ≤ t.distance y
  no_farther x y e = ⊎_elim (λ i. absurd (both_ways (t.before y x) e (o.nearest_first y x i))) (λ i. i) (cases_lt (t.distance y) (t.distance x))

  -- all that waits, and all below it, is no nearer than the first
  least : (x : X) (w : List X) → Rising t.before (x ∷ w) → All Member (x ∷ w) → Below t (λ z. t.distance x ≤ t.distance z) (x ∷ w)
  least x w r k = (outward_below t Member m x k.0, all_both (λ y. t.before y x ≡ false) Member (λ y. All (λ z. t.distance x ≤ t.distance z) (below t y)) farther w r.0 k.1)
    where
      farther : (y : X) → t.before y x ≡ false → Member y → All (λ z. t.distance x ≤ t.distance z) (below t y)
      farther y e l =
          All-weaker (λ z. t.distance y ≤ t.distance z) (λ z. t.distance x ≤ t.distance z) (λ z i. let j = no_farther x y e in omega arith) (below t y) (outward_below t Member m y l)

  -- a final x stands first: every other final comes after it, and every node is farther
  abbrev Later : X → X → Type 0
  Later x z = (t.opens z ≡ false → t.before z x ≡ false) × (t.opens z ≡ true → t.distance x < t.distance z)

  node_farther : (x y : X) → t.opens x ≡ false → t.opens y ≡ true → t.before y x ≡ false → t.distance x < t.distance y
  node_farther x y f n e = ⊎_elim (λ i. i) (λ i. absurd (both_ways (t.before y x) e (o.nodes_first y x n f i))) (cases_lt (t.distance x) (t.distance y))

  later_one : (x y : X) → t.opens x ≡ false → t.before y x ≡ false → Member y → All (Later x) (below t y)
  later_one x y f e k =
      ⊎_elim
      (λ n. let i = node_farther x y f n e in
      All-weaker (λ z. t.distance y ≤ t.distance z) (Later x) (λ z j. (λ _. o.oneway x z (o.nearest_first x z (omega (arith, i, j))), λ _. omega (arith, i, j))) (below t y)
      (outward_below t Member m y k))
      (λ n. subst (All (Later x)) (sym (final_below t Member m y k n)) ((λ _. e, λ n'. absurd (both_ways (t.opens y) n n')), tt))
      (cases_Bool (t.opens y))

  later : (x : X) (w : List X) → t.opens x ≡ false → All (λ y. t.before y x ≡ false) w → All Member w → Below t (Later x) w
  later x w f r k = all_both (λ y. t.before y x ≡ false) Member (λ y. All (Later x) (below t y)) (λ y e l. later_one x y f e l) w r k

  module _ (l : ℕ) (rows : List X) (g : Option ℕ) where
    -- a node is opened
    opened_one : (x : X) (w : List X) (n k : ℕ) (os : List X) → Midway t Member l rows g os (stand (x ∷ w) n k) → t.opens x ≡ true → t.distance x ≤ l →
        Midway t Member l rows g (x ∷ os) (open_first t (stand (x ∷ w) n k) x w)
    opened_one x w n k os p e i =
        let d = p.parted in
        let mx = d.members.0 in
        let w' = inserts t.before (t.kids x) w in
        let Near : X → Type 0 = λ o. Within g (t.distance o) ⊎ ((t.distance o ≤ l) × Below t (λ z. t.distance o ≤ t.distance z) w') in
        record {
          parted =
              record {
                rising = rising_inserts t.before o.oneway o.chain (t.kids x) w d.rising.1;
                members = all_inserts t.before Member (t.kids x) w (m.kids x mx) d.members.1;
                whole = λ h. omega (arith, d.whole h, total_open t Member m x mx w h);
                rows_final = d.rows_final;
                rows_members = d.rows_members;
                rows_rising = d.rows_rising;
                rows_first =
                    All-weaker (λ r. Below t (λ z. t.opens z ≡ false → t.before z r ≡ false) (x ∷ w)) (λ r. Below t (λ z. t.opens z ≡ false → t.before z r ≡ false) w')
                    (λ r h. below_open t Member m x mx w (λ z. t.opens z ≡ false → t.before z r ≡ false) h) rows d.rows_first;
                os_nodes = (e, d.os_nodes);
              };
          near = (
            inr (i, below_open t Member m x mx w (λ z. t.distance x ≤ t.distance z) (least x w d.rising d.members)),
            All-weaker (λ o. Within g (t.distance o) ⊎ ((t.distance o ≤ l) × Below t (λ z. t.distance o ≤ t.distance z) (x ∷ w))) Near
                (λ o h. ⊎_elim (λ a. inl a) (λ a. inr (a.0, below_open t Member m x mx w (λ z. t.distance o ≤ t.distance z) a.1)) h) os p.near,
          );
          beyond = below_open t Member m x mx w (λ z. t.opens z ≡ true → Beyond g (t.distance z)) p.beyond;
          opened = omega (arith, p.opened);
          told = p.told;
        }

    -- nothing is left within the limit
    says_none : (os : List X) (s : Standing X) → Midway t Member l rows g os s → Below t (λ z. l < t.distance z) s.waiting → After t Member rows g (Next l) (none s.opened) s
    says_none os s p h =
        let come = reach t.distance (Next l) (none s.opened) in
        let g' = greater g come in
        let b : Between t Member rows g' os s =
        record {
          parted = p.parted;
          near =
              All-weaker (λ o. Within g (t.distance o) ⊎ ((t.distance o ≤ l) × Below t (λ z. t.distance o ≤ t.distance z) s.waiting)) (λ o. Within g' (t.distance o))
              (λ o k. within_greater g come (t.distance o) (⊎_elim (λ a. inl a) (λ a. inr a.0) k)) os p.near;
          beyond =
              below_both t (λ z. t.opens z ≡ true → Beyond g (t.distance z)) (λ z. l < t.distance z) (λ z. t.opens z ≡ true → Beyond g' (t.distance z))
              (λ z a i e. beyond_greater g come (t.distance z) (a e) i) s.waiting p.beyond h;
          opened = p.opened;
          told = p.told;
        } in
        record { os = os; at = subst (λ rs. Between t Member rs g' os s) (sym (append-nil rows)) b; count = p.opened; says = h }

    -- a final is told
    says_told : (x : X) (w : List X) (n k : ℕ) (os : List X) → Midway t Member l rows g os (stand (x ∷ w) n k) → t.opens x ≡ false → t.distance x ≤ l →
        After t Member rows g (Next l) (told x n) (stand w n (k + 1))
    says_told x w n k os p e i =
        let d = p.parted in
        let mx = d.members.0 in
        let alone : below t x ≡ x ∷ [] = final_below t Member m x mx e in
        let aft = later x w e d.rising.0 d.members.1 in
        let g' = greater g (Some (t.distance x)) in
        let First : List X → X → Type 0 = λ v r. Below t (λ z. t.opens z ≡ false → t.before z r ≡ false) v in
        let b : Between t Member (rows ++ x ∷ []) g' os (stand w n (k + 1)) =
        record {
          parted =
              record {
                rising = d.rising.1;
                members = d.members.1;
                whole = λ h. let c : total h (below t x) ≡ h x + 0 = ap (total h) alone in omega (arith, d.whole h, c, total_append h rows (x ∷ []));
                rows_final = All-append (λ r. t.opens r ≡ false) rows (x ∷ []) d.rows_final (e, tt);
                rows_members = All-append Member rows (x ∷ []) d.rows_members (mx, tt);
                rows_rising =
                    rising_append t.before o.oneway o.chain rows (x ∷ []) d.rows_rising (tt, tt)
                    (All-weaker (First (x ∷ w)) (λ r. All (λ y. t.before y r ≡ false) (x ∷ []))
                    (λ r h. ((subst (All (λ z. t.opens z ≡ false → t.before z r ≡ false)) alone h.0).0 e, tt)) rows d.rows_first);
                rows_first =
                    All-append (First w) rows (x ∷ []) (All-weaker (First (x ∷ w)) (First w) (λ r h. h.1) rows d.rows_first)
                    (below_weaker t (Later x) (λ z. t.opens z ≡ false → t.before z x ≡ false) (λ z h. h.0) w aft, tt);
                os_nodes = d.os_nodes;
              };
          near =
              All-weaker (λ o. Within g (t.distance o) ⊎ ((t.distance o ≤ l) × Below t (λ z. t.distance o ≤ t.distance z) (x ∷ w))) (λ o. Within g' (t.distance o))
              (λ o h. within_greater g (Some (t.distance x)) (t.distance o) (⊎_elim (λ a. inl a) (λ a. inr (subst (All (λ z. t.distance o ≤ t.distance z)) alone a.1.0).0) h)) os p.near;
          beyond =
              below_both t (λ z. t.opens z ≡ true → Beyond g (t.distance z)) (Later x) (λ z. t.opens z ≡ true → Beyond g' (t.distance z))
              (λ z a h n. beyond_greater g (Some (t.distance x)) (t.distance z) (a n) (h.1 n)) w p.beyond.1 aft;
          opened = p.opened;
          told = ap (λ j. j + 1) p.told ∙ sym (length_push rows x);
        } in
        record { os = os; at = b; count = p.opened; says = i }

    -- one glance, with what follows if it goes on
    glanced : (onto : Standing X → Glance (Answer X) (Standing X)) (x : X) (w : List X) (n k : ℕ) (os : List X) → Midway t Member l rows g os (stand (x ∷ w) n k) →
        (t.opens x ≡ true → Midway t Member l rows g (x ∷ os) (open_first t (stand (x ∷ w) n k) x w) → Ends (After t Member rows g (Next l)) (onto (open_first t (stand (x ∷ w) n k) x w))) →
        Ends (After t Member rows g (Next l)) (onward onto (glance_at t l (stand (x ∷ w) n k) (x ∷ w)))
    glanced onto x w n k os p goes =
        let s = stand (x ∷ w) n k in
        let Q : Glance (Answer X) (Standing X) → Type 0 = λ v. Ends (After t Member rows g (Next l)) (onward onto v) in
        cond_both (leb (t.distance x) l) (cond (t.opens x) (on (open_first t s x w)) (done (told x n) (tell_first s w))) (done (none n) s) Q
        (λ i. let j = leb-true (t.distance x) l i in
        cond_both (t.opens x) (on (open_first t s x w)) (done (told x n) (tell_first s w)) Q (λ e. goes e (opened_one x w n k os p e j)) (λ e. says_told x w n k os p e j))
        (λ i. let j = leb-false (t.distance x) l i in
        says_none os s p
        (below_weaker t (λ z. t.distance x ≤ t.distance z) (λ z. l < t.distance z) (λ z h. omega arith) (x ∷ w) (least x w p.parted.rising p.parted.members)))

    -- glances end: no more go on than nodes are left
    ended : (n : ℕ) (w : List X) (c k : ℕ) (os : List X) → Midway t Member l rows g os (stand w c k) → total_below t (λ z. one (t.opens z)) w ≤ n →
        Ends (After t Member rows g (Next l)) (follow (glance t l) n (stand w c k))
    ended zero [] c k os p i = says_none os (stand [] c k) p tt
    ended (suc n) [] c k os p i = says_none os (stand [] c k) p tt
    ended zero (x ∷ w) c k os p i =
        glanced (λ _. on (stand (x ∷ w) c k)) x w c k os p
        (λ e _. let q = total_open t Member m x p.parted.members.0 w (λ z. one (t.opens z)) in let u : one (t.opens x) ≡ 1 = ap one e in absurd (omega (arith, i, q, u)))
    ended (suc n) (x ∷ w) c k os p i =
        glanced (follow (glance t l) n) x w c k os p
        (λ e p'. let q = total_open t Member m x p.parted.members.0 w (λ z. one (t.opens z)) in let u : one (t.opens x) ≡ 1 = ap one e in
        ended n (inserts t.before (t.kids x) w) (c + 1) k (x ∷ os) p' (omega (arith, i, q, u)))

  -- as many nodes are left as stand in and below what waits
  pub nodes_left : (rows : List X) (g : Option ℕ) (os : List X) (Near : X → Type 0) (s : Standing X) → At t Member rows g os Near s →
      s.opened + total_below t (λ z. one (t.opens z)) s.waiting ≡ length (nodes t)
  nodes_left rows g os Near s p =
      omega (arith, p.opened, nodes_total rows os s.waiting p.parted (λ _. 1), length_total (nodes t), length_total os)

  pub called_after : (rows : List X) (g : Option ℕ) (os : List X) (s : Standing X) → Between t Member rows g os s → (c : Call) →
      After t Member rows g c (called t s c).0 (called t s c).1
  called_after rows g os s p (Next l) =
      let mid : Midway t Member l rows g os s =
      record {
        parted = p.parted;
        near =
            All-weaker (λ o. Within g (t.distance o)) (λ o. Within g (t.distance o) ⊎ ((t.distance o ≤ l) × Below t (λ z. t.distance o ≤ t.distance z) s.waiting)) (λ o h. inl h) os
            p.near;
        beyond = p.beyond;
        opened = p.opened;
        told = p.told;
      } in
      let n = length (nodes t) - s.opened in
      ends_finish (After t Member rows g (Next l)) (λ u. none u.opened) (follow (glance t l) n s)
      (ended l rows g n s.waiting s.opened s.told os mid (omega (arith, nodes_left rows g os (λ o. Within g (t.distance o)) s p)))
  called_after rows g os s p Report =
      record {
        os = os;
        at = subst (λ rs. Between t Member rs (greater g None) os s) (sym (append-nil rows)) (subst (λ h. Between t Member rows h os s) (sym (greater_none g)) p);
        count = p.opened;
        says = p.told;
      }

  pub at_start : Between t Member [] None [] (start t.root)
  at_start =
      record {
        parted =
            record {
              rising = (tt, tt);
              members = (m.root, tt);
              whole = λ f. omega arith;
              rows_final = tt;
              rows_members = tt;
              rows_rising = tt;
              rows_first = tt;
              os_nodes = tt;
            };
        near = tt;
        beyond = (all_every (λ z. t.opens z ≡ true → Unit {0}) (λ _ _. tt) (below t t.root), tt);
        opened = refl;
        told = refl;
      }
