-- A browse of an accepted book is the search of its tree: nothing in it is ever broken.
use Rattle.std.proofs.Common.{◌≡◌, ℕ, ◌-◌, Bool, true, false, cond, leb, List, [], ◌∷◌, map, Ok, Err, sym, refl, ap, ◌∙◌}
use Rattle.std.proofs.lemmas.Bool.{cond-true}
use Rattle.refusal.specs.Told.{at_node}
use Rattle.book.specs.Model.{Model, BookShape}
use Rattle.book_check.specs.Accepted.{Accepted}
use Rattle.search.specs.declared.turn.Call.{Call}
use Rattle.search.specs.declared.turn.Call.TheVariants.{Next, Report}
use Rattle.search.specs.declared.turn.Turn.{Turn}
use Rattle.search.specs.Tree.{Tree}
use Rattle.search.specs.Answer as heard
use Rattle.search.specs.Glances.{done, on, follow, finish}
use Rattle.search.specs.Search.{Standing, start, tell_first, open_first}
use Rattle.search.specs.Search as search
use Rattle.search.specs.Turns.{standing_after}
use Rattle.search.proofs.Glances.{said}
use Rattle.search.proofs.Room.{Held, stand}
use Rattle.search.proofs.Follows.{next_follows, answers_follow, standing_follows}
use Rattle.browse.specs.Thing.{Thing, opens}
use Rattle.browse.specs.Tree.{Far, tree_of}
use Rattle.browse.specs.Broken.{can_open}
use Rattle.browse.specs.Browse.{Reply, row, opening, nothing, open_node, glance_at, glance, next_of, called, turned, replies_from, stands_after}
use Rattle.browse.specs.Law.{Monotone}
use Rattle.browse.proofs.Members.{Member, book_members}
use Rattle.browse.proofs.Once.{nodes_met}
use Rattle.browse.proofs.Openable.{can_open_lem}

-- the answer of the search as a reply
abbrev pub say : heard.Answer Thing → Reply
say a = Ok (heard.reworded row a)

module _ (m : Model) (far : Far) (acc : Accepted m) (shape : BookShape m) (mono : Monotone far) where
  abbrev t : Tree Thing
  t = tree_of m far

  abbrev pub HeldBy : Standing Thing → Type 0
  HeldBy = Held t (Member m far)

  first_glance : (limit : ℕ) (s : Standing Thing) (x : Thing) (w : List Thing) → (opens x.class ≡ true → can_open m far s x ≡ true) →
      glance_at m far limit s (x ∷ w) ≡ said say (search.glance_at t limit s (x ∷ w))
  first_glance limit s x w can = at (leb x.distance limit) (opens x.class) can
    where
      at : (near node : Bool) → (node ≡ true → can_open m far s x ≡ true) →
          cond near (cond node (open_node m far s x w) (done (Ok (heard.told (row x) s.opened)) (tell_first s w))) (done (nothing s) s)
          ≡ said say (cond near (cond node (on (open_first t s x w)) (done (heard.told x s.opened) (tell_first s w))) (done (heard.none s.opened) s))
      at true true can = cond-true (can_open m far s x) (on (open_first t s x w)) (done (Err (at_node 20 x.number)) s) (can refl)
      at true false can = refl
      at false node can = refl

  glance_is : (limit : ℕ) (s : Standing Thing) → HeldBy s → glance m far limit s ≡ said say (search.glance t limit s)
  glance_is limit s h = at s.waiting s.opened s.told h
    where
      at : (w : List Thing) (n k : ℕ) → HeldBy (stand w n k) → glance m far limit (stand w n k) ≡ said say (search.glance t limit (stand w n k))
      at [] n k h = refl
      at (x ∷ w) n k h = first_glance limit (stand (x ∷ w) n k) x w (can_open_lem m far acc shape mono x w n k h)

  pub next_is : (limit : ℕ) (s : Standing Thing) → HeldBy s → next_of m far limit s ≡ (say (search.next t limit s).0, (search.next t limit s).1)
  unfolding next_of
  next_is limit s h =
      ap (λ n. finish nothing (follow (glance m far limit) (n - s.opened) s)) (sym (nodes_met m far acc shape mono))
      ∙ next_follows t (Member m far) (book_members m far acc mono) say limit (glance m far limit) (glance_is limit) nothing (λ _. refl) s h

  turn_is : (s : Standing Thing) (u : Turn) → HeldBy s → turned m far s u ≡ (say (search.turned t s u).0, (search.turned t s u).1)
  turn_is s u h = at u.call
    where
      at : (c : Call) → called m far s c ≡ (say (search.called t s c).0, (search.called t s c).1)
      at (Next limit) = next_is limit s h
      at Report = refl

  pub replies_are : (turns : List Turn) → replies_from m far (opening m) turns ≡ map say (search.answers t turns)
  replies_are = answers_follow t (Member m far) (book_members m far acc mono) say (turned m far) turn_is

  pub stands_are : (turns : List Turn) → stands_after m far (opening m) turns ≡ standing_after (search.turned t) (start t.root) turns
  stands_are = standing_follows t (Member m far) (book_members m far acc mono) say (turned m far) turn_is
