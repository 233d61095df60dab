-- A loop over turns: what was answered, and what is yet to be answered.
use Rattle.std.proofs.Common.{◌≡◌, ℕ, ◌≤◌, List, ◌++◌, map, length, drop, sym, ap, ◌∙◌}
use Rattle.std.proofs.lemmas.List.{append-nil, drop_all}
use Rattle.book.specs.Model.{Model}
use Rattle.search.specs.declared.turn.Turn.{Turn}
use Rattle.search.specs.Search.{Standing}
use Rattle.browse.specs.declared.answer.Answer.{Answer}
use Rattle.browse.specs.Thing.{Thing}
use Rattle.browse.specs.Tree.{Far}
use Rattle.browse.specs.Browse.{replies_from, stands_after, reply}

module _ (m : Model) (far : Far) (begin : Standing Thing) (turns : List Turn) where
  -- After i turns it stands at s and has given these answers: with what the others give they are all the answers.
  abbrev pub Saying : Standing Thing → ℕ → List Answer → Type 0
  Saying s i said =
      (map reply said ++ replies_from m far s (drop i turns) ≡ replies_from m far begin turns)
      × (stands_after m far s (drop i turns) ≡ stands_after m far begin turns)

  module _ (s : Standing Thing) (i : ℕ) (said : List Answer) (inv : Saying s i said) where
    pub said_all : length turns ≤ i → (map reply said ≡ replies_from m far begin turns) × (s ≡ stands_after m far begin turns)
    said_all h =
        let d = drop_all i turns h in (
          sym (append-nil (map reply said)) ∙ ap (λ l. map reply said ++ l) (sym (ap (replies_from m far s) d)) ∙ inv.0,
          sym (ap (stands_after m far s) d) ∙ inv.1,
        )
