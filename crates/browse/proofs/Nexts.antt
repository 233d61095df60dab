-- What `next` comes to, by what waits first.
use Rattle.std.proofs.Common.{◌≡◌, ℕ, zero, suc, ◌+◌, ◌-◌, ◌<◌, ◌≤◌, Bool, cond, leb, List, [], ◌∷◌, length, Some, None, Ok, Err, Option, refl, ap, ◌∙◌, arith}
use Rattle.refusal.specs.Told.{at_node}
use Rattle.book.specs.Model.{Model, node_count, level_of, places_of}
use Rattle.book.specs.declared.place.Entry.{Entry}
use Rattle.queue.specs.Heap.{behind}
use Rattle.search.specs.Answer.{told}
use Rattle.search.specs.Glances.{Glance, done, on, onward, follow, finish}
use Rattle.search.specs.Law.{first_within}
use Rattle.search.specs.Search.{Standing, tell_first, open_first}
use Rattle.browse.specs.declared.waiting.Class.{Class}
use Rattle.browse.specs.declared.waiting.Class.TheVariants.{Node, Pick}
use Rattle.browse.specs.Thing.{Thing, opens}
use Rattle.browse.specs.Tree.{Far, class_at, things, kids_as, tree_of}
use Rattle.browse.specs.Broken.{can_open}
use Rattle.browse.specs.Browse.{Reply, row, nothing, open_node, glance_at, glance, next_of}
use Rattle.browse.specs.Desk.{opened_to}
use Rattle.browse.specs.Opening.{kids_to_open}
use Rattle.browse.proofs.Opens.{only_if_not, only_if_lem, can_open_says}

abbrev pub nearest : ℕ → Standing Thing → Option Thing
nearest limit s = first_within (λ x. x.distance) limit s.waiting

few_things : (far : Far) (c : Class) (ps : List (Option Entry)) → length (things far c ps) ≤ length ps
few_things far c [] = omega arith
few_things far c (None ∷ ps) = omega (arith, few_things far c ps)
few_things far c (Some e ∷ ps) = omega (arith, few_things far c ps)

module _ (m : Model) (far : Far) (limit : ℕ) (s : Standing Thing) where
  done_at_once : (a : Reply) (t : Standing Thing) → glance m far limit s ≡ done a t → next_of m far limit s ≡ (a, t)
  unfolding next_of
  done_at_once a t e = at (node_count m - s.opened)
    where
      at : (n : ℕ) → finish nothing (follow (glance m far limit) n s) ≡ (a, t)
      at zero = ap (λ g. finish nothing (onward (λ _. on s) g)) e
      at (suc n) = ap (λ g. finish nothing (onward (follow (glance m far limit) n) g)) e

  goes_on : (t : Standing Thing) → glance m far limit s ≡ on t → t.opened ≡ s.opened + 1 → s.opened < node_count m → next_of m far limit s ≡ next_of m far limit t
  unfolding next_of
  goes_on t e f h =
      let k : node_count m - s.opened ≡ suc (node_count m - t.opened) = omega (arith, f) in
      ap (λ n. finish nothing (follow (glance m far limit) n s)) k
      ∙ ap (λ g. finish nothing (onward (follow (glance m far limit) (node_count m - t.opened)) g)) e

  pub next_none : nearest limit s ≡ None → next_of m far limit s ≡ (nothing s, s)
  next_none e = done_at_once (nothing s) s (at s.waiting e)
    where
      at : (w : List Thing) → first_within (λ z. z.distance) limit w ≡ None → glance_at m far limit s w ≡ done (nothing s) s
      at [] e = refl
      at (x ∷ w) e = ap (λ b. cond b (cond (opens x.class) (open_node m far s x w) (done (Ok (told (row x) s.opened)) (tell_first s w))) (done (nothing s) s)) (only_if_not (leb x.distance limit) x e)

  module _ (x : Thing) (first : nearest limit s ≡ Some x) where
    -- the glance at x, which is within the limit
    seen : (w : List Thing) → first_within (λ z. z.distance) limit w ≡ Some x →
        (w ≡ x ∷ behind w) × (glance_at m far limit s w ≡ cond (opens x.class) (open_node m far s x (behind w)) (done (Ok (told (row x) s.opened)) (tell_first s (behind w))))
    seen [] e = absurd (cc (e))
    seen (y ∷ w) e =
        let k = only_if_lem (leb y.distance limit) y x e in (
          ap (λ z. z ∷ w) k.1,
          ap (λ b. cond b (cond (opens y.class) (open_node m far s y w) (done (Ok (told (row y) s.opened)) (tell_first s w))) (done (nothing s) s)) k.0
              ∙ ap (λ z. cond (opens z.class) (open_node m far s z w) (done (Ok (told (row z) s.opened)) (tell_first s w))) k.1,
        )

    by_class : (c : Class) → x.class ≡ c → glance m far limit s ≡ cond (opens c) (open_node m far s x (behind s.waiting)) (done (Ok (told (row x) s.opened)) (tell_first s (behind s.waiting)))
    by_class c e = (seen s.waiting first).1 ∙ ap (λ k. cond (opens k) (open_node m far s x (behind s.waiting)) (done (Ok (told (row x) s.opened)) (tell_first s (behind s.waiting)))) e

    pub some_wait : length s.waiting ≡ suc (length (behind s.waiting))
    some_wait = ap length (seen s.waiting first).0

    pub next_pick : x.class ≡ Pick → next_of m far limit s ≡ (Ok (told (row x) s.opened), tell_first s (behind s.waiting))
    next_pick e = done_at_once (Ok (told (row x) s.opened)) (tell_first s (behind s.waiting)) (by_class Pick e)

    opened_or_broken : Bool → Glance Reply (Standing Thing)
    opened_or_broken b = cond b (on (open_first (tree_of m far) s x (behind s.waiting))) (done (Err (at_node 20 x.number)) s)

    pub next_broken : x.class ≡ Node → kids_to_open m far s x ≡ None → next_of m far limit s ≡ (Err (at_node 20 x.number), s)
    unfolding opened_or_broken
    next_broken e f = done_at_once (Err (at_node 20 x.number)) s (by_class Node e ∙ ap opened_or_broken (only_if_not (can_open m far s x) (things far (class_at (level_of m x.number)) (places_of m x.number)) f))

    pub next_opens : (kids : List Thing) → x.class ≡ Node → kids_to_open m far s x ≡ Some kids → next_of m far limit s ≡ next_of m far limit (opened_to kids s)
    unfolding opened_or_broken
    next_opens kids e f =
        let k = only_if_lem (can_open m far s x) (things far (class_at (level_of m x.number)) (places_of m x.number)) kids f in
        let t : open_first (tree_of m far) s x (behind s.waiting) ≡ opened_to kids s =
        ap (λ c. opened_to (kids_as m far c x.number) s) e ∙ ap (λ l. opened_to l s) k.1 in
        goes_on (opened_to kids s) (by_class Node e ∙ ap opened_or_broken k.0 ∙ ap on t) refl (can_open_says m far s x k.0).0

    pub opening_fits : (kids : List Thing) → kids_to_open m far s x ≡ Some kids → (s.opened < node_count m) × (length s.waiting + length kids ≤ 2049)
    opening_fits kids f =
        let k = only_if_lem (can_open m far s x) (things far (class_at (level_of m x.number)) (places_of m x.number)) kids f in
        let c = can_open_says m far s x k.0 in
        (c.0, omega (arith, c.1, ap length k.1, few_things far (class_at (level_of m x.number)) (places_of m x.number)))
