-- The kids of a node, collected place after place.
use Rattle.std.proofs.Common.{◌≡◌, ℕ, List, ◌++◌, length, drop, Option}
use Rattle.book.specs.Model.{Model}
use Rattle.book.specs.declared.place.Entry.{Entry}
use Rattle.browse.specs.Thing.{Thing}
use Rattle.browse.specs.Tree.{Far, class_at, things}
use Rattle.browse.specs.Broken.{sound_places}
use Rattle.browse.specs.Opening.{only_if, sound_kids}

-- The first i places are sound and name the kids held.
abbrev pub Collecting : Model → Far → ℕ → ℕ → List (Option Entry) → List Thing → ℕ → Type 0
Collecting m far level d ps held i =
    (only_if (sound_places m far level d (drop i ps)) (held ++ things far (class_at level) (drop i ps)) ≡ sound_kids m far level d ps)
    × (length held ≡ i)
