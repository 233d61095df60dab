-- What the code asks of all node records, one after another.
use Rattle.std.proofs.Common.{◌≡◌, ℕ, Bool, ◌&&◌, leb, List, [], ◌∷◌, map, refl, ap}
use Rattle.std.specs.List.{list_all, sum_by}
use Rattle.std.proofs.lemmas.List.Recursion.{is_sum_by}
use Rattle.loaded.specs.Reading.{byte_at}
use Rattle.loaded.specs.Decode.{node_from}
use Rattle.loaded.specs.Tables.{within_limits, places_of_all}

abbrev pub is_within : List ℕ → Bool
is_within bytes = leb (byte_at bytes 0) 7 && leb (byte_at bytes 1) 16

pub all_within : (records : List (List ℕ)) → list_all is_within records ≡ within_limits (map node_from records)
all_within [] = refl
all_within (r ∷ records) = ap (λ (rest : Bool). is_within r && rest) (all_within records)

pub sum_places : (records : List (List ℕ)) → places_of_all (map node_from records) ≡ sum_by (λ (r : List ℕ). byte_at r 1) records
sum_places = is_sum_by (λ (records : List (List ℕ)). places_of_all (map node_from records)) (λ (r : List ℕ). byte_at r 1) refl (λ _ _. refl)
