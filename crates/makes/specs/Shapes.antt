-- A book's shape, from what its filled places say.
use Rattle.std.specs.Prelude.{◌≡◌, ℕ, ◌<◌, ◌≤◌, Some, None, Option}
use Rattle.std.proofs.Common.{arith}
use Rattle.book.specs.Model.{Model, BookShape, node_count, pick_limit, level_of, place_count, place_of}
use Rattle.geometry.proofs.Boxes.{by_option}
use Rattle.geometry.specs.declared.bounds.Bounds.{Bounds}
use Rattle.std.proofs.lemmas.Option.{none-some}
use Rattle.makes.specs.Places.{place_for}
use Rattle.book.specs.declared.place.Entry.{Entry}

abbrev pub TargetsFit : Model → Type 0
TargetsFit m = (n i : ℕ) (e : Entry) → place_of m n i ≡ Some e → e.target < 65536

pub targets_of : (m : Model) → BookShape m → TargetsFit m
targets_of m s n i e p = rw p at (s.targets_fit n i)

pub shape_by : (m : Model) → 0 < node_count m → node_count m ≤ 512 → pick_limit m ≤ 2048 → ((n : ℕ) → level_of m n ≤ 7) → ((n : ℕ) → place_count m n ≤ 16) → TargetsFit m → BookShape m
shape_by m some nodes picks levels places targets =
    record {
      some_node = some;
      nodes_most = nodes;
      picks_most = picks;
      levels_most = levels;
      places_most = places;
      targets_fit = λ n i. by_option (place_of m n i) (λ p. rw p tt) (λ e p. rw p (targets n i e p));
    }

pub target_named : (target most : ℕ) (b : Option Bounds) (e : Entry) → target < most → place_for target b ≡ Some e → e.target < most
target_named target most (Some b) e h t = let same : target ≡ e.target = cc in omega (arith, same)
target_named target most None e h t = absurd (none-some e t)
