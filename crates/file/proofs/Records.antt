-- What is left of the records, one more at a time.
use Rattle.std.proofs.Common.{◌≡◌, ℕ, ◌+◌, ◌<◌, List, [], ◌∷◌, ◌++◌, map, length, get_or, drop, Some, None, sym, ap, ◌∙◌, arith, Option}
use Rattle.std.proofs.lemmas.List.{at_drop_more, get_or-map}
use Rattle.book.specs.declared.kind.Kind.{Kind}
use Rattle.book.specs.declared.kind.Kind.TheVariants.{CasingTop}
use Rattle.book.specs.declared.place.Entry.{Entry}
use Rattle.book.specs.Kinds.{number_of}
use Rattle.book.specs.Model.{Node, no_node}
use Rattle.file.specs.Encode.{node_record, node_records, place_record, place_records, pick_records}

pub nodes_next : (first k : ℕ) (ns : List Node) (i : ℕ) → i < length ns → k ≡ length (get_or ns i no_node).places → node_records first (drop i ns) ≡ node_record first (get_or ns i no_node) ++ node_records (first + k) (drop (i + 1) ns)
nodes_next first k ns i within e =
    at_drop_more (node_records first) ns i no_node within
    ∙ ap (λ j. node_record first (get_or ns i no_node) ++ node_records (first + j) (drop (i + 1) ns)) (sym e)

-- the place at i is p
pub place_next : (ps : List (Option Entry)) (i : ℕ) → i < length ps → (p : Option Entry) → p ≡ get_or ps i None → place_records (drop i ps) ≡ place_record p ++ place_records (drop (i + 1) ps)
place_next ps i within p e =
    at_drop_more place_records ps i None within ∙ ap (λ q. place_record q ++ place_records (drop (i + 1) ps)) (sym e)

-- the pick at i has the kind k
pub pick_next : (ks : List Kind) (i : ℕ) → i < length ks → (k : Kind) → Some k ≡ get_or (map Some ks) i None → pick_records (drop i ks) ≡ (number_of k ∷ []) ++ pick_records (drop (i + 1) ks)
pick_next ks i within k e =
    let is : Some k ≡ Some (get_or ks i CasingTop) = e ∙ get_or-map Some ks i CasingTop None within in
    let same : get_or ks i CasingTop ≡ k = cc in
    at_drop_more pick_records ks i CasingTop within ∙ ap (λ j. number_of j ∷ pick_records (drop (i + 1) ks)) same

-- every pick below the limit has one
pub pick_some : (ks : List Kind) (i : ℕ) → i < length ks → None ≡ get_or (map Some ks) i None → ⊥
pick_some ks i within e =
    let is : None ≡ Some (get_or ks i CasingTop) = e ∙ get_or-map Some ks i CasingTop None within in
    let wrong : ◌≡◌ {A = ℕ} 0 1 = cc in
    omega arith
