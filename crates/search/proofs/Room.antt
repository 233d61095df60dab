-- A search never holds more than its tree: what is told, opened and waiting, with all below it, is the tree.
use Rattle.std.proofs.Common.{◌≡◌, ℕ, ◌+◌, ◌-◌, ◌<◌, ◌≤◌, true, false, leb, List, [], ◌∷◌, length, ap, arith}
use Rattle.std.specs.List.{flat_map, AllByRecursion as All}
use Rattle.std.proofs.lemmas.Bool.{cond_both}
use Rattle.std.proofs.lemmas.List.Sums.{length-filter}
use Rattle.search.specs.declared.turn.Call.{Call}
use Rattle.search.specs.declared.turn.Call.TheVariants.{Next, Report}
use Rattle.search.specs.declared.turn.Turn.{Turn}
use Rattle.search.specs.Tree.{Tree, below, nodes}
use Rattle.search.specs.Answer.{Answer, none}
use Rattle.search.specs.Glances.{Glance, follow}
use Rattle.search.specs.Search.{Standing, start, tell_first, open_first, glance, called, turned}
use Rattle.search.proofs.Lists.{total, one, length_total, count_by_total}
use Rattle.search.proofs.Waiting.{all_inserts, length_inserts}
use Rattle.search.proofs.Tree.{Members, total_below, below_whole, final_below, total_open}
use Rattle.search.proofs.Glances.{Leads, leads_finish, leads_follow}

pub record Held {X : Type 0} (t : Tree X) (Member : X → Type 0) (s : Standing X) : Type 0 where
  pub members : All Member s.waiting
  pub nodes : s.opened + total_below t (λ z. one (t.opens z)) s.waiting ≡ length (nodes t)
  pub things : s.told + s.opened + total_below t (λ _. 1) s.waiting ≡ length (below t t.root)

abbrev pub stand : {X : Type 0} → List X → ℕ → ℕ → Standing X
stand w n k = record { waiting = w; opened = n; told = k }

module _ {X : Type 0} (t : Tree X) (Member : X → Type 0) (m : Members t Member) where
  pub held_start : Held t Member (start t.root)
  held_start =
      record {
        members = (m.root, tt);
        nodes = let all = below t t.root in omega (arith, length-filter t.opens all, count_by_total t.opens all);
        things = omega (arith, length_total (below t t.root));
      }

  held_open : (x : X) (w : List X) (n k : ℕ) → Held t Member (stand (x ∷ w) n k) → t.opens x ≡ true → Held t Member (open_first t (stand (x ∷ w) n k) x w)
  held_open x w n k h e =
      let mx = h.members.0 in
      let u : one (t.opens x) ≡ 1 = ap one e in
      record {
        members = all_inserts t.before Member (t.kids x) w (m.kids x mx) h.members.1;
        nodes = omega (arith, h.nodes, total_open t Member m x mx w (λ z. one (t.opens z)), u);
        things = omega (arith, h.things, total_open t Member m x mx w (λ _. 1));
      }

  held_tell : (x : X) (w : List X) (n k : ℕ) → Held t Member (stand (x ∷ w) n k) → t.opens x ≡ false → Held t Member (tell_first (stand (x ∷ w) n k) w)
  held_tell x w n k h e =
      let alone : below t x ≡ x ∷ [] = final_below t Member m x h.members.0 e in
      let u : total (λ z. one (t.opens z)) (below t x) ≡ one (t.opens x) + 0 = ap (total (λ z. one (t.opens z))) alone in
      let v : one (t.opens x) ≡ 0 = ap one e in
      let c : total (λ _. 1) (below t x) ≡ 1 = ap (total (λ _. 1)) alone in
      record { members = h.members.1; nodes = omega (arith, h.nodes, u, v); things = omega (arith, h.things, c) }

  pub held_glance : (limit : ℕ) (s : Standing X) → Held t Member s → Leads (Held t Member) (glance t limit s)
  held_glance limit s h = at s.waiting s.opened s.told h
    where
      at : (w : List X) (n k : ℕ) → Held t Member (stand w n k) → Leads (Held t Member) (glance t limit (stand w n k))
      at [] n k h = h
      at (x ∷ w) n k h =
          let L : Glance (Answer X) (Standing X) → Type 0 = λ l. Leads (Held t Member) l in
          cond_both (leb (t.distance x) limit) _ _ L (λ _. cond_both (t.opens x) _ _ L (λ e. held_open x w n k h e) (λ e. held_tell x w n k h e)) (λ _. h)

  pub held_turned : (s : Standing X) (u : Turn) → Held t Member s → Held t Member (turned t s u).1
  held_turned s u h = at u.call
    where
      at : (c : Call) → Held t Member (called t s c).1
      at (Next limit) =
          let n = length (nodes t) - s.opened in
          leads_finish (Held t Member) (λ v. none v.opened) (follow (glance t limit) n s) (leads_follow (Held t Member) (glance t limit) (held_glance limit) n s h)
      at Report = h

  -- all that waits is in the tree
  pub held_length : (s : Standing X) → Held t Member s → s.told + s.opened + length s.waiting ≤ length (below t t.root)
  held_length s h = let i = at s.waiting h.members in omega (arith, h.things, i)
    where
      at : (w : List X) → All Member w → length w ≤ total_below t (λ _. 1) w
      at [] k = omega arith
      at (y ∷ w) k =
          let c : total (λ _. 1) (below t y) ≡ 1 + total (λ _. 1) (flat_map (below t) (t.kids y)) = ap (total (λ _. 1)) (below_whole t Member m y k.0) in
          omega (arith, at w k.1, c)

  -- where a node stands first, not all nodes are opened yet, and there is room for its kids in place of it
  pub held_room : (x : X) (w : List X) (n k : ℕ) → Held t Member (stand (x ∷ w) n k) → t.opens x ≡ true →
      (n < length (nodes t)) × (1 + k + n + length w + length (t.kids x) ≤ length (below t t.root))
  held_room x w n k h e =
      let p = held_open x w n k h e in (
        omega (arith, p.nodes),
        omega (arith, held_length (open_first t (stand (x ∷ w) n k) x w) p, length_inserts t.before (t.kids x) w),
      )
