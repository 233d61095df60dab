-- The law of replies that are the definition's.
use Rattle.std.proofs.Common.{◌≡◌, ℕ, List, [], ◌∷◌, ap, subst}
use Rattle.book.specs.Model.{Model, BookShape}
use Rattle.search.specs.declared.turn.Turn.{Turn}
use Rattle.search.specs.Search.{Standing}
use Rattle.browse.specs.Thing.{Thing}
use Rattle.browse.specs.Tree.{Far}
use Rattle.browse.specs.Browse.{Reply, next_of, turned, replies_from}
use Rattle.browse.specs.Law.{Monotone, FitsWord, Lawful, TellsNearest}
use Rattle.browse.proofs.Lawful.{lawful, nearest}

module _ (m : Model) (far : Far) (shape : BookShape m) (mono : Monotone far) (fits : FitsWord far) (s : Standing Thing) where
  pub lawful_replies : (turns : List Turn) (replies : List Reply) → replies_from m far s turns ≡ replies → Lawful m far s turns replies
  lawful_replies turns replies e = subst (Lawful m far s turns) e (lawful m far shape mono fits s turns)

  pub lawful_reply : (u : Turn) (reply : Reply) (t : Standing Thing) → turned m far s u ≡ (reply, t) → Lawful m far s (u ∷ []) (reply ∷ [])
  lawful_reply u reply t e = lawful_replies (u ∷ []) (reply ∷ []) (ap (λ z. z.0 ∷ []) e)

  pub nearest_reply : (limit : ℕ) (reply : Reply) (t : Standing Thing) → next_of m far limit s ≡ (reply, t) → TellsNearest m far s limit reply
  nearest_reply limit reply t e = subst (TellsNearest m far s limit) (ap (λ z. z.0) e) (nearest m far shape mono fits s limit)
