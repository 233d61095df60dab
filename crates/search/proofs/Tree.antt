-- The walk down a tree, and what stands in and below a list of things as one of them is opened.
use Rattle.std.proofs.Common.{◌≡◌, ℕ, zero, suc, ◌+◌, ◌<◌, ◌≤◌, Bool, true, false, not, List, [], ◌∷◌, filter, sym, refl, ap, ◌∙◌, subst, arith}
use Rattle.std.specs.List.{flat_map, AllByRecursion as All}
use Rattle.std.proofs.lemmas.Bool.{not-true}
use Rattle.std.proofs.ByRecursion.{All-weaker, all_kept_by, kept_by_passes}
use Rattle.search.specs.Waiting.{inserts, sorted}
use Rattle.search.specs.Tree.{Tree, walk, below, Sound}
use Rattle.search.proofs.Lists.{total, total_joined, total_none, all_join, all_unjoin, all_both, joined_same}
use Rattle.search.proofs.Waiting.{all_inserts, total_inserts, all_sorted}

-- The things that a tree is made of, among all of X.
pub record Members {X : Type 0} (t : Tree X) (Member : X → Type 0) : Type 0 where
  pub root : Member t.root
  pub sound : (x : X) → Member x → Sound t x
  pub kids : (x : X) → Member x → All Member (t.kids x)

-- `before` is an order by distance, then nodes before finals. Members that it does not tell apart are the same.
pub record Ordered {X : Type 0} (t : Tree X) (Member : X → Type 0) : Type 0 where
  pub oneway : (x y : X) → t.before x y ≡ true → t.before y x ≡ false
  pub chain : (x y z : X) → t.before x y ≡ false → t.before y z ≡ false → t.before x z ≡ false
  pub same : (x y : X) → Member x → Member y → t.before x y ≡ false → t.before y x ≡ false → x ≡ y
  pub nearest_first : (x y : X) → t.distance x < t.distance y → t.before x y ≡ true
  pub nodes_first : (x y : X) → t.opens x ≡ true → t.opens y ≡ false → t.distance x ≤ t.distance y → t.before x y ≡ true

-- P holds of all that stands in and below w
abbrev pub Below : {X : Type 0} → Tree X → (X → Type 0) → List X → Type 0
Below t P w = All (λ y. All P (below t y)) w

-- the sum over all that stands in and below w
abbrev pub total_below : {X : Type 0} → Tree X → (X → ℕ) → List X → ℕ
total_below t f w = total (λ y. total f (below t y)) w

-- the finals in and below w, in order
abbrev pub pending : {X : Type 0} → Tree X → List X → List X
pending t w = sorted t.before (filter (λ z. not (t.opens z)) (flat_map (below t) w))

pub below_weaker : {X : Type 0} (t : Tree X) (P Q : X → Type 0) → ((x : X) → P x → Q x) → (w : List X) → Below t P w → Below t Q w
below_weaker t P Q f w h = All-weaker (λ y. All P (below t y)) (λ y. All Q (below t y)) (λ y k. All-weaker P Q f (below t y) k) w h

pub below_both : {X : Type 0} (t : Tree X) (P Q R : X → Type 0) → ((x : X) → P x → Q x → R x) → (w : List X) → Below t P w → Below t Q w → Below t R w
below_both t P Q R f w h k =
    all_both (λ y. All P (below t y)) (λ y. All Q (below t y)) (λ y. All R (below t y)) (λ y a b. all_both P Q R f (below t y) a b) w h k

-- what holds of all finals in and below w holds of each that is pending
pub all_pending : {X : Type 0} (t : Tree X) (P : X → Type 0) (w : List X) → Below t (λ z. t.opens z ≡ false → P z) w → All P (pending t w)
all_pending {X} t P w h =
    let F : X → Bool = λ z. not (t.opens z) in
    let Q : X → Type 0 = λ z. t.opens z ≡ false → P z in
    let zs = flat_map (below t) w in
    all_sorted t.before P (filter F zs)
    (all_both Q (λ z. F z ≡ true) P (λ z f e. f (not-true (t.opens z) e)) (filter F zs) (all_kept_by F Q zs (all_join Q (below t) w h)) (kept_by_passes F zs))

pub total_below_none : {X : Type 0} (t : Tree X) (f : X → ℕ) (w : List X) → Below t (λ z. f z ≡ 0) w → total_below t f w ≡ 0
total_below_none t f w h =
    total_none (λ y. total f (below t y)) w (All-weaker (λ y. All (λ z. f z ≡ 0) (below t y)) (λ y. total f (below t y) ≡ 0) (λ y k. total_none f (below t y) k) w h)

-- facts of the walk

walk_first : {X : Type 0} (kids : X → List X) (P : X → Type 0) (n : ℕ) (x : X) → All P (walk kids n x) → P x
walk_first kids P zero x h = h.0
walk_first kids P (suc n) x h = h.0

walk_less : {X : Type 0} (kids : X → List X) (P : X → Type 0) (m n : ℕ) (x : X) → m ≤ n → All P (walk kids n x) → All P (walk kids m x)
walk_less kids P zero n x i h = (walk_first kids P n x h, tt)
walk_less kids P (suc m) zero x i h = absurd (omega arith)
walk_less kids P (suc m) (suc n) x i h = (
  h.0,
  all_join P (walk kids m) (kids x)
      (All-weaker (λ y. All P (walk kids n y)) (λ y. All P (walk kids m y)) (λ y k. walk_less kids P m n y (omega arith) k) (kids x) (all_unjoin P (walk kids n) (kids x) h.1)),
)

-- where all below x are sound, so are all below each kid of x
pub sound_kids_lem : {X : Type 0} (t : Tree X) (x : X) → All (Sound t) (below t x) → Sound t x × All (λ y. All (Sound t) (below t y)) (t.kids x)
sound_kids_lem {X} t x h = (s, at (t.height x) refl)
  where
    s : Sound t x
    s = walk_first t.kids (Sound t) (t.height x) x h

    none : (ys : List X) → All (λ y. t.height y < 0) ys → All (λ y. All (Sound t) (below t y)) ys
    none [] l = tt
    none (y ∷ ys) l = absurd (omega (arith, l.0))

    at : (n : ℕ) → t.height x ≡ n → All (λ y. All (Sound t) (below t y)) (t.kids x)
    at zero e = none (t.kids x) (subst (λ n. All (λ y. t.height y < n) (t.kids x)) e s.lower)
    at (suc n) e =
        all_both (λ y. t.height y < t.height x) (λ y. All (Sound t) (walk t.kids n y)) (λ y. All (Sound t) (below t y))
        (λ y l k. walk_less t.kids (Sound t) (t.height y) n y (omega (arith, l, e)) k) (t.kids x) s.lower
        (all_unjoin (Sound t) (walk t.kids n) (t.kids x) (subst (λ n. All (Sound t) (walk t.kids n x)) e h).1)

-- a tree that is sound from its root down: its members are the things below which all is sound
pub sound_members : {X : Type 0} (t : Tree X) → All (Sound t) (below t t.root) → Members t (λ x. All (Sound t) (below t x))
sound_members t h = record { root = h; sound = λ x k. (sound_kids_lem t x k).0; kids = λ x k. (sound_kids_lem t x k).1 }

module _ {X : Type 0} (t : Tree X) (Member : X → Type 0) (m : Members t Member) where
  no_kids : (n : ℕ) (ys : List X) → n ≤ 0 → All (λ y. t.height y < n) ys → ys ≡ []
  no_kids n [] i h = refl
  no_kids n (y ∷ ys) i h = absurd (omega (arith, h.0, i))

  abbrev Lower : ℕ → X → Type 0
  Lower n y = Member y × (t.height y < n)

  lower_kids : (x : X) → Member x → All (Lower (t.height x)) (t.kids x)
  lower_kids x k = all_both Member (λ y. t.height y < t.height x) (Lower (t.height x)) (λ y a b. (a, b)) (t.kids x) (m.kids x k) (m.sound x k).lower

  -- more steps than x is high lead nowhere else
  enough : (d e : ℕ) (x : X) → Member x → t.height x ≤ d → t.height x ≤ e → walk t.kids d x ≡ walk t.kids e x
  enough zero zero x k i j = refl
  enough zero (suc e) x k i j = ap (λ ys. x ∷ flat_map (walk t.kids e) ys) (sym (no_kids (t.height x) (t.kids x) i (m.sound x k).lower))
  enough (suc d) zero x k i j = ap (λ ys. x ∷ flat_map (walk t.kids d) ys) (no_kids (t.height x) (t.kids x) j (m.sound x k).lower)
  enough (suc d) (suc e) x k i j =
      ap (λ ys. x ∷ ys)
      (joined_same (walk t.kids d) (walk t.kids e) (t.kids x)
      (All-weaker (Lower (t.height x)) (λ y. walk t.kids d y ≡ walk t.kids e y) (λ y l. enough d e y l.0 (omega (arith, l.1, i)) (omega (arith, l.1, j))) (t.kids x)
      (lower_kids x k)))

  -- the walk from x is x and the walks from its kids
  pub below_whole : (x : X) → Member x → below t x ≡ x ∷ flat_map (below t) (t.kids x)
  below_whole x k =
      enough (t.height x) (suc (t.height x)) x k (omega arith) (omega arith)
      ∙ ap (λ ys. x ∷ ys)
      (joined_same (walk t.kids (t.height x)) (below t) (t.kids x)
      (All-weaker (Lower (t.height x)) (λ y. walk t.kids (t.height x) y ≡ below t y) (λ y l. enough (t.height x) (t.height y) y l.0 (omega (arith, l.1)) (omega arith)) (t.kids x)
      (lower_kids x k)))

  all_walk : (P : X → Type 0) → ((x : X) → Member x → P x) → (n : ℕ) (x : X) → Member x → All P (walk t.kids n x)
  all_walk P f zero x k = (f x k, tt)
  all_walk P f (suc n) x k =
      (f x k, all_join P (walk t.kids n) (t.kids x) (All-weaker Member (λ y. All P (walk t.kids n y)) (λ y l. all_walk P f n y l) (t.kids x) (m.kids x k)))

  pub all_below : (P : X → Type 0) → ((x : X) → Member x → P x) → (x : X) → Member x → All P (below t x)
  all_below P f x k = all_walk P f (t.height x) x k

  pub members_below : (x : X) → Member x → All Member (below t x)
  members_below = all_below Member (λ x k. k)

  -- nothing below a thing is nearer than it
  outward_walk : (n : ℕ) (x : X) → Member x → All (λ z. t.distance x ≤ t.distance z) (walk t.kids n x)
  outward_walk zero x k = (omega arith, tt)
  outward_walk (suc n) x k =
      let F : X → Type 0 = λ z. t.distance x ≤ t.distance z in (
        omega arith,
        all_join F (walk t.kids n) (t.kids x)
            (all_both Member F (λ y. All F (walk t.kids n y))
            (λ y l i. All-weaker (λ z. t.distance y ≤ t.distance z) F (λ z j. omega (arith, i, j)) (walk t.kids n y) (outward_walk n y l)) (t.kids x) (m.kids x k) (m.sound x k).outward),
      )

  pub outward_below : (x : X) → Member x → All (λ z. t.distance x ≤ t.distance z) (below t x)
  outward_below x k = outward_walk (t.height x) x k

  pub final_below : (x : X) → Member x → t.opens x ≡ false → below t x ≡ x ∷ []
  final_below x k e = below_whole x k ∙ ap (λ ys. x ∷ flat_map (below t) ys) ((m.sound x k).ends e)

  -- Each thing of the walk is where it began, or a kid of a thing of the walk.
  module _ (f : X → ℕ) where
    abbrev from_kids : X → ℕ
    from_kids y = total f (t.kids y)

    meets_kids : (n : ℕ) (ys : List X) → All (λ y. total f (walk t.kids n y) ≡ f y + total from_kids (walk t.kids n y)) ys →
        total (λ y. total f (walk t.kids n y)) ys ≡ total f ys + total (λ y. total from_kids (walk t.kids n y)) ys
    meets_kids n [] h = refl
    meets_kids n (y ∷ ys) h = omega (arith, meets_kids n ys h.1, h.0)

    meets_walk : (n : ℕ) (x : X) → Member x → t.height x ≤ n → total f (walk t.kids n x) ≡ f x + total from_kids (walk t.kids n x)
    meets_walk zero x k i = let e : from_kids x ≡ 0 = ap (total f) (no_kids (t.height x) (t.kids x) i (m.sound x k).lower) in omega (arith, e)
    meets_walk (suc n) x k i =
        let each =
        All-weaker (Lower (t.height x)) (λ y. total f (walk t.kids n y) ≡ f y + total from_kids (walk t.kids n y)) (λ y l. meets_walk n y l.0 (omega (arith, l.1, i))) (t.kids x)
        (lower_kids x k) in
        omega (arith, meets_kids n (t.kids x) each, total_joined f (walk t.kids n) (t.kids x), total_joined from_kids (walk t.kids n) (t.kids x))

    pub below_meets : (x : X) → Member x → total f (below t x) ≡ f x + total (λ y. total f (t.kids y)) (below t x)
    below_meets x k = meets_walk (t.height x) x k (omega arith)

  -- x is opened, which stood before w
  module _ (x : X) (k : Member x) (w : List X) where
    pub below_open : (P : X → Type 0) → Below t P (x ∷ w) → Below t P (inserts t.before (t.kids x) w)
    below_open P h =
        all_inserts t.before (λ y. All P (below t y)) (t.kids x) w (all_unjoin P (below t) (t.kids x) (subst (All P) (below_whole x k) h.0).1) h.1

    pub total_open : (f : X → ℕ) → f x + total_below t f (inserts t.before (t.kids x) w) ≡ total_below t f (x ∷ w)
    total_open f =
        let e : total f (below t x) ≡ f x + total f (flat_map (below t) (t.kids x)) = ap (total f) (below_whole x k) in
        omega (arith, e, total_inserts t.before (λ y. total f (below t y)) (t.kids x) w, total_joined f (below t) (t.kids x))
