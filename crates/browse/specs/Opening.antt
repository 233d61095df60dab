-- What is had from a node that can be opened, and from each of its places.
use Rattle.std.specs.Prelude.{ℕ, Bool, cond, List, Some, None, Option}
use Rattle.book.specs.Model.{Model, level_of, places_of}
use Rattle.book.specs.declared.place.Entry.{Entry}
use Rattle.search.specs.Search.{Standing}
use Rattle.browse.specs.Thing.{Thing}
use Rattle.browse.specs.Tree.{Far, class_at, thing, things}
use Rattle.browse.specs.Broken.{sound_place, sound_places, can_open}

abbrev pub only_if : {A : Type 0} → Bool → A → Option A
only_if b a = cond b (Some a) None

-- what a sound place names
abbrev pub sound_kid : Model → Far → ℕ → ℕ → Option Entry → Option Thing
sound_kid m far level d None = None
sound_kid m far level d (Some e) = only_if (sound_place m far level d (Some e)) (thing far (class_at level) e)

-- what all places of a node of this level at this distance name, if each is sound
abbrev pub sound_kids : Model → Far → ℕ → ℕ → List (Option Entry) → Option (List Thing)
sound_kids m far level d ps = only_if (sound_places m far level d ps) (things far (class_at level) ps)

abbrev pub kids_to_open : Model → Far → Standing Thing → Thing → Option (List Thing)
kids_to_open m far s x = only_if (can_open m far s x) (things far (class_at (level_of m x.number)) (places_of m x.number))
