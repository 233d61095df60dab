-- The ranking is what its name says: all finals below the root, each as often as the walk meets it, in order. However they are listed
-- before they are sorted, there is one such ranking; and what waits is one list, however it is kept.
use Rattle.std.proofs.Common.{◌≡◌, ℕ, not, leb, List, map, count_by, filter, ap}
use Rattle.std.specs.List.{AllByRecursion as All}
use Rattle.std.proofs.ByRecursion.{all_kept_by}
use Rattle.search.specs.Waiting.{sorted}
use Rattle.search.specs.Tree.{Tree, below, nodes, finals, ranking}
use Rattle.search.specs.Search.{next}
use Rattle.search.proofs.Lists.{Alike, alike_kept, alike_map, alike_count}
use Rattle.search.proofs.Waiting.{Rising, sorted_alike, rising_sorted, alike_sorted}
use Rattle.search.proofs.Tree.{Members, Ordered, members_below}

pub ranking_alike : {X : Type 0} (t : Tree X) → Alike (ranking t) (finals t)
ranking_alike t = sorted_alike t.before (finals t)

-- another list of all that the tree holds: its finals, and its nodes with their distances
pub finals_alike : {X : Type 0} (t : Tree X) (all : List X) → Alike (below t t.root) all → Alike (finals t) (filter (λ x. not (t.opens x)) all)
finals_alike t all h = alike_kept (λ x. not (t.opens x)) (below t t.root) all h

pub nodes_alike : {X : Type 0} (t : Tree X) (all : List X) → Alike (below t t.root) all → Alike (nodes t) (filter t.opens all)
nodes_alike t all h = alike_kept t.opens (below t t.root) all h

pub nodes_within : {X : Type 0} (t : Tree X) (xs : List X) → Alike (nodes t) xs → (g : ℕ) → count_by (λ d. leb d g) (map t.distance (nodes t)) ≡ count_by (λ d. leb d g) (map t.distance xs)
nodes_within t xs h g = alike_count (λ d. leb d g) (map t.distance (nodes t)) (map t.distance xs) (alike_map t.distance (nodes t) xs h)

module _ {X : Type 0} (t : Tree X) (Member : X → Type 0) (m : Members t Member) (o : Ordered t Member) where
  pub ranking_rises : Rising t.before (ranking t)
  ranking_rises = rising_sorted t.before o.oneway o.chain (finals t)

  pub finals_members : All Member (finals t)
  finals_members = all_kept_by (λ x. not (t.opens x)) Member (below t t.root) (members_below t Member m t.root m.root)

  pub ranking_is : (xs : List X) → All Member xs → Alike (finals t) xs → ranking t ≡ sorted t.before xs
  ranking_is xs k h = alike_sorted t.before o.oneway o.chain Member o.same (finals t) xs finals_members k h

  -- `next` sees what waits only in its order
  pub next_alike : (limit : ℕ) (v w : List X) (n k : ℕ) → All Member v → All Member w → Alike v w →
      next t limit (record { waiting = sorted t.before v; opened = n; told = k }) ≡ next t limit (record { waiting = sorted t.before w; opened = n; told = k })
  next_alike limit v w n k a b h =
      ap (λ xs. next t limit (record { waiting = xs; opened = n; told = k })) (alike_sorted t.before o.oneway o.chain Member o.same v w a b h)
