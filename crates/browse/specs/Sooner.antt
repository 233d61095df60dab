-- The order of what waits in a browse's table: no two that differ stand level.
use Rattle.std.specs.Prelude.{ℕ, ◌+◌, ◌*◌, Bool, true, ◌&&◌, List, [], ◌∷◌, ℤ, pos, negsuc, nat_lt}
use Rattle.queue.specs.Order.{by_key}
use Rattle.browse.specs.declared.waiting.Waiting.{Waiting}
use Rattle.browse.specs.Thing.{rank}

-- a number for each top, another for each other
abbrev pub top_number : ℤ → ℕ
top_number (pos n) = n * 2
top_number (negsuc n) = n * 2 + 1

-- By distance, then nodes before picks, then by number, then by arrival. The top only tells apart what differs in
-- nothing else.
abbrev pub key : Waiting → List ℕ
key w = w.distance ∷ rank w.class ∷ w.number ∷ w.arrival ∷ top_number w.top ∷ []

abbrev pub sooner : Waiting → Waiting → Bool
sooner = by_key key

-- all of these came before the one with this arrival
abbrev pub came_before : ℕ → List Waiting → Bool
came_before n [] = true
came_before n (w ∷ ws) = nat_lt w.arrival n && came_before n ws
