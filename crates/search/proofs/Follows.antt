-- Another search of the same tree, which may also answer what this one never does: where its glances are this one's, so are its answers.
use Rattle.std.proofs.Common.{◌≡◌, ℕ, ◌-◌, List, [], ◌∷◌, map, length}
use Rattle.search.specs.declared.turn.Turn.{Turn}
use Rattle.search.specs.Tree.{Tree, nodes}
use Rattle.search.specs.Answer.{Answer, none}
use Rattle.search.specs.Glances.{Glance, follow, finish}
use Rattle.search.specs.Turns.{answers_from, standing_after}
use Rattle.search.specs.Search.{Standing, start, glance, next, turned, answers}
use Rattle.search.proofs.Tree.{Members}
use Rattle.search.proofs.Glances.{said, finish_said}
use Rattle.search.proofs.Turns.{answers_said, standing_said}
use Rattle.search.proofs.Room.{Held, held_start, held_glance, held_turned}

module _ {X A : Type 0} (t : Tree X) (Member : X → Type 0) (m : Members t Member) (say : Answer X → A) where
  pub next_follows : (limit : ℕ) (glance' : Standing X → Glance A (Standing X)) → ((s : Standing X) → Held t Member s → glance' s ≡ said say (glance t limit s)) →
      (short : Standing X → A) → ((s : Standing X) → short s ≡ say (none s.opened)) → (s : Standing X) → Held t Member s →
      finish short (follow glance' (length (nodes t) - s.opened) s) ≡ (say (next t limit s).0, (next t limit s).1)
  next_follows limit glance' alike short shorts s h =
      (finish_said say (Held t Member) glance' (glance t limit) (λ u k. (alike u k, held_glance t Member m limit u k)) short (λ u. none u.opened) shorts (length (nodes t) - s.opened) s h).0

  module _ (turned' : Standing X → Turn → A × Standing X) (alike : (s : Standing X) (u : Turn) → Held t Member s → turned' s u ≡ (say (turned t s u).0, (turned t s u).1)) where
    pub answers_follow : (us : List Turn) → answers_from turned' (start t.root) us ≡ map say (answers t us)
    answers_follow us = answers_said say (Held t Member) turned' (turned t) (λ s u h. (alike s u h, held_turned t Member m s u h)) (start t.root) (held_start t Member m) us

    pub standing_follows : (us : List Turn) → standing_after turned' (start t.root) us ≡ standing_after (turned t) (start t.root) us
    standing_follows us = standing_said say (Held t Member) turned' (turned t) (λ s u h. (alike s u h, held_turned t Member m s u h)) (start t.root) (held_start t Member m) us

  -- what holds of every standing that turns lead to
  held_from : (us : List Turn) (s : Standing X) → Held t Member s → Held t Member (standing_after (turned t) s us)
  held_from [] s h = h
  held_from (u ∷ us) s h = held_from us (turned t s u).1 (held_turned t Member m s u h)

  pub held_after : (us : List Turn) → Held t Member (standing_after (turned t) (start t.root) us)
  held_after us = held_from us (start t.root) (held_start t Member m)
