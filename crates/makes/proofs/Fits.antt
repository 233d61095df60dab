-- What it means that two books fit.
use Rattle.std.proofs.Common.{◌≡◌, ℕ, ◌+◌, ◌-◌, ◌<◌, ◌≤◌, Bool, true, false, cond, not, ◌||◌, eqb, ltb, Ok, Err, Result, Some, None, sym, refl, ap, ◌∙◌, arith}
use Rattle.std.specs.Result.{result_ok}
use Rattle.std.proofs.lemmas.Bool.{ltb-false, eqb-false, or_parts}
use Rattle.std.proofs.lemmas.Option.{none-some}
use Rattle.refusal.specs.Told.{Told, plain, answered, join_told}
use Rattle.refusal.specs.declared.hands.JoinFault.{JoinFault}
use Rattle.book.specs.Model.{Model, BookShape, node_count, pick_limit, level_of, empty_book}
use Rattle.makes.specs.declared.seam.Sizes.{Sizes}
use Rattle.makes.specs.Join.{sizes_of, root_node, root_empty, roots_apart, both_books, joinable, joined}

pub record Fits (l r : Model) : Type 0 where
  pub nodes_fit : node_count l + node_count r + 1 ≤ 512
  pub picks_fit : pick_limit l + pick_limit r ≤ 2048
  pub level_left : (root_node l).level ≡ 7 → ⊥

pub not_refused : (b : Bool) (t : Told) (rest : Result (Unit {0}) Told) → cond b (Err t) rest ≡ Ok tt → (b ≡ false) × (rest ≡ Ok tt)
not_refused true t rest e = cc
not_refused false t rest e = (refl, e)

fits_from : (l r : Model) → joinable l r ≡ Ok tt → Fits l r
fits_from l r e =
    let a = not_refused (ltb 512 (node_count l + node_count r + 1)) (plain 8) _ e in
    let b = not_refused (ltb 2048 (pick_limit l + pick_limit r)) (plain 9) _ a.1 in
    let c = not_refused (roots_apart l r) (plain 10) (cond (root_empty l || root_empty r) (Err (plain 11)) (Ok tt)) b.1 in
    let d = or_parts (not (eqb (root_node l).level (root_node r).level)) (eqb (root_node l).level 7) c.0 in
    record { nodes_fit = ltb-false _ _ a.0; picks_fit = ltb-false _ _ b.0; level_left = eqb-false _ _ d.1 }

ok_told : (a : Result (Unit {0}) JoinFault) (u : Unit {0}) → Some u ≡ result_ok a → answered join_told a ≡ Ok tt
ok_told (Ok tt) u e = refl
ok_told (Err f) u e = absurd (none-some u (sym e))

err_told : (a : Result (Unit {0}) JoinFault) → None ≡ result_ok a → (t : Told) × (answered join_told a ≡ Err t)
err_told (Ok tt) e = absurd (none-some tt e)
err_told (Err f) e = (join_told f, refl)

pub fits_yes : (l r : Model) (a : Result (Unit {0}) JoinFault) → answered join_told a ≡ joinable l r → (u : Unit {0}) → Some u ≡ result_ok a → Fits l r
fits_yes l r a e u f = fits_from l r (sym e ∙ ok_told a u f)

pub joined_yes : (l r : Model) (a : Result (Unit {0}) JoinFault) → answered join_told a ≡ joinable l r → (u : Unit {0}) → Some u ≡ result_ok a → both_books l r ≡ joined l r
unfolding joined
joined_yes l r a e u f = let g : joinable l r ≡ Ok tt = sym e ∙ ok_told a u f in rw g

pub joined_no : (l r : Model) (a : Result (Unit {0}) JoinFault) → answered join_told a ≡ joinable l r → None ≡ result_ok a → empty_book ≡ joined l r
unfolding joined
joined_no l r a e f = let t = err_told a f in let g : joinable l r ≡ Err t.0 = sym e ∙ t.1 in rw g

-- what a join keeps of two books that fit
pub root_level : (m : Model) (z : Sizes) (level : ℕ) → z ≡ sizes_of m → level ≡ level_of m (z.nodes - 1) → level ≡ (root_node m).level
root_level m z level e p = p ∙ ap (λ (y : Sizes). level_of m (y.nodes - 1)) e

pub seam_some : (l : Model) (y : Sizes) → y ≡ sizes_of l → BookShape l → 0 < y.nodes
seam_some l y e s = omega (arith, ap (λ (z : Sizes). z.nodes) e, s.some_node)

pub seam_nodes : (l r : Model) (y z : Sizes) → y ≡ sizes_of l → z ≡ sizes_of r → Fits l r → y.nodes + z.nodes + 1 ≤ 512
seam_nodes l r y z d e fit = omega (arith, ap (λ (x : Sizes). x.nodes) d, ap (λ (x : Sizes). x.nodes) e, fit.nodes_fit)

pub seam_picks : (l r : Model) (y z : Sizes) → y ≡ sizes_of l → z ≡ sizes_of r → Fits l r → y.picks + z.picks ≤ 2048
seam_picks l r y z d e fit = omega (arith, ap (λ (x : Sizes). x.picks) d, ap (λ (x : Sizes). x.picks) e, fit.picks_fit)

pub seam_level : (l r : Model) → Fits l r → BookShape l → (level : ℕ) → level ≡ (root_node l).level → level + 1 ≤ 7
seam_level l r fit s level e =
    let most = s.levels_most (node_count l - 1) in
    let ne = fit.level_left in
    omega (arith, most, ne)
