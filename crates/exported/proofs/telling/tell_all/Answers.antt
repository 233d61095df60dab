use Rattle.std.proofs.Common.{◌≡◌, ℕ, ◌+◌, ◌-◌, min, length, take, sym, ap, ◌∙◌, subst, arith, rules}
use borrow.Rule.Slice.PartMut.{mid_of}
use Rattle.loaded.specs.Loaded.{loaded_model}
use Rattle.browse.specs.Law.{ranking}
use Rattle.exported.specs.Rows.{laid}
use Rattle.exported.proofs.Laying.{lays_more, room}
use Rattle.exported.proofs.telling.tell_all.Goals as goal

-- as many as are asked for, or as there is room for
least-is : (told r each long room : ℕ) → r ≡ min each (long - told) → long ≡ room → told + r - told ≡ min each (room - told)
least-is told r each long room e f = let g : told + r - told ≡ r = omega arith in g ∙ e ∙ ap (λ n. min each (n - told)) f

pub loop-query-preserved : goal.loop-query-preserved
loop-query-preserved g c =
    let far = g.M.Measure.distance c.args.measure in
    let m = loaded_model c.args.held.book in
    let l = c.loop-query in
    let q = c.query-item.result in
    let before = c.args.rows.now in
    let e = c.first_rows-same.ensures in
    let k = l.told + c.min.result - l.told in
    let part = mid_of l.told k l.rows in
    let least : k ≡ min c.args.each (length before - l.told) = least-is l.told c.min.result c.args.each (length l.rows) (length before) (search rules) l.auto.rows in
    let count = subst (λ b. c.first_rows-same.result.1 ≡ length (take (length part) (ranking (loaded_model b) (far q)))) l.invariant.1 e.count in
    let rows = subst (λ b. c.first_rows-same.new.rows ≡ laid (take (length part) (ranking (loaded_model b) (far q))) part) l.invariant.1 e.rows in
    let more = lays_more far m c.args.each c.args.queries.now before l.query-index l.rows l.told l.invariant.0 q
    c.loop-query-test.true (sym c.query-item.is) k least c.first_rows-same.new.rows c.first_rows-same.result.1 count rows in
    let in_room = room far m c.args.each c.args.queries.now before (l.query-index + 1) _ (l.told + c.first_rows-same.result.1) more in
    (search rules, e.book ∙ l.invariant.1, search rules)
