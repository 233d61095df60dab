-- The ranking of an accepted book is that of its tree, and so are the distances of its nodes.
use Rattle.std.proofs.Common.{◌≡◌, ℕ, ◌≤◌, Bool, true, false, cond, not, eqb, ltb, leb, List, [], ◌∷◌, ◌++◌, map, count_by, filter, sym, refl, ap, ◌∙◌, inr}
use Rattle.std.specs.List.{flat_map, AllByRecursion as All}
use Rattle.std.proofs.lemmas.Bool.{cond_both}
use Rattle.std.proofs.lemmas.List.Elements.{filter-append}
use Rattle.std.proofs.ByRecursion.{All-weaker, All-from_get_or}
use Rattle.book.specs.Model.{Model, BookShape, level_of, places_of, no_node}
use Rattle.book.specs.Model as book
use Rattle.book_check.specs.Accepted.{Accepted}
use Rattle.search.specs.Tree as tree
use Rattle.search.proofs.Lists.{total, Alike, all_join}
use Rattle.search.proofs.Waiting.{map_sorted}
use Rattle.search.proofs.Ranking.{ranking_is, finals_alike, nodes_alike, nodes_within, finals_members}
use Rattle.browse.specs.declared.waiting.Class.{Class}
use Rattle.browse.specs.declared.waiting.Class.TheVariants.{Node, Pick}
use Rattle.browse.specs.Thing.{Thing, opens, rank, or_else, before}
use Rattle.browse.specs.Tree.{Far, class_at, thing, things, root_thing, tree_of}
use Rattle.browse.specs.Browse.{row}
use Rattle.browse.specs.Law.{picks_in, nodes_in, row_before, ranking, node_distances, unlimited, Monotone, FitsWord}
use Rattle.browse.proofs.Places.{all_things_lem, kept_things}
use Rattle.browse.proofs.Members.{Member, book_members, book_ordered, in_reach}
use Rattle.browse.proofs.Once.{things_in, all_things, all_met}

-- of what the entries of all nodes name, the picks or the nodes
kept_joined : (far : Far) (p : Class → Bool) (g : book.Node → List Thing) → ((nd : book.Node) → cond (p (class_at nd.level)) (things_in far nd) [] ≡ g nd) →
    (nds : List book.Node) → filter (λ x. p x.class) (flat_map (things_in far) nds) ≡ flat_map g nds
kept_joined far p g each [] = refl
kept_joined far p g each (nd ∷ nds) =
    filter-append (λ x. p x.class) (things_in far nd) (flat_map (things_in far) nds)
    ∙ (λ i. (kept_things far (class_at nd.level) p nd.places ∙ each nd) i ++ kept_joined far p g each nds i)

picks_of : (far : Far) (nd : book.Node) → cond (not (opens (class_at nd.level))) (things_in far nd) [] ≡ picks_in far nd
picks_of far nd = at (eqb nd.level 0)
  where
    at : (b : Bool) → cond (not (opens (cond b Pick Node))) (things far (cond b Pick Node) nd.places) [] ≡ cond b (things far Pick nd.places) []
    at true = refl
    at false = refl

nodes_of : (far : Far) (nd : book.Node) → cond (opens (class_at nd.level)) (things_in far nd) [] ≡ nodes_in far nd
nodes_of far nd = at (eqb nd.level 0)
  where
    at : (b : Bool) → cond (opens (cond b Pick Node)) (things far (cond b Pick Node) nd.places) [] ≡ cond b [] (things far Node nd.places)
    at true = refl
    at false = refl

-- of picks the order is by distance, then number
rows_agree : (x y : Thing) → x.class ≡ Pick → y.class ≡ Pick → before x y ≡ row_before (row x) (row y)
rows_agree x y c d = λ i. or_else x.distance y.distance (or_else (rank (c i)) (rank (d i)) (ltb x.number y.number))

module _ (m : Model) (far : Far) (acc : Accepted m) where
  abbrev picks : List Thing
  picks = flat_map (picks_in far) m.nodes

  all_picks : (P : Thing → Type 0) → ((x : Thing) → Member m far x → x.class ≡ Pick → P x) → All P picks
  all_picks P f =
      all_join P (picks_in far) m.nodes
      (All-from_get_or (λ nd. All P (picks_in far nd)) m.nodes no_node
      (λ n _.
      cond_both (eqb (level_of m n) 0) (things far Pick (places_of m n)) [] (All P)
      (λ q.
      all_things_lem far Pick P (places_of m n)
      (λ j e s.
      f (thing far Pick e) (inr (record { node = n; place = j; entry = e; stands = s; is = ap (λ b. thing far (cond b Pick Node) e) (sym q) })) refl))
      (λ _. tt)))

  module _ (shape : BookShape m) (mono : Monotone far) where
    picks_alike : Alike (tree.finals (tree_of m far)) picks
    picks_alike f =
        finals_alike (tree_of m far) (all_things m far) (all_met m far acc shape mono) f
        ∙ ap (total f) (kept_joined far (λ c. not (opens c)) (picks_in far) (picks_of far) m.nodes)

    nodes_alike_all : Alike (tree.nodes (tree_of m far)) (root_thing m ∷ flat_map (nodes_in far) m.nodes)
    nodes_alike_all f =
        nodes_alike (tree_of m far) (all_things m far) (all_met m far acc shape mono) f
        ∙ ap (λ xs. total f (root_thing m ∷ xs)) (kept_joined far opens (nodes_in far) (nodes_of far) m.nodes)

    pub same_ranking : map row (tree.ranking (tree_of m far)) ≡ ranking m far
    same_ranking =
        ap (map row)
        (ranking_is (tree_of m far) (Member m far) (book_members m far acc mono) (book_ordered m far acc) picks (all_picks (Member m far) (λ x k c. k))
        picks_alike)
        ∙ map_sorted before row_before row (λ x. x.class ≡ Pick) rows_agree picks (all_picks (λ x. x.class ≡ Pick) (λ x k c. c))

    pub same_distances : (g : ℕ) → count_by (λ d. leb d g) (map (λ x. x.distance) (tree.nodes (tree_of m far))) ≡ count_by (λ d. leb d g) (node_distances m far)
    same_distances g = nodes_within (tree_of m far) (root_thing m ∷ flat_map (nodes_in far) m.nodes) nodes_alike_all g

    pub none_beyond : FitsWord far → All (λ x. x.distance ≤ unlimited) (tree.finals (tree_of m far))
    none_beyond fits =
        All-weaker (Member m far) (λ x. x.distance ≤ unlimited) (in_reach m far acc fits) (tree.finals (tree_of m far))
        (finals_members (tree_of m far) (Member m far) (book_members m far acc mono) (book_ordered m far acc))
