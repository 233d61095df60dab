use Rattle.std.proofs.Common.{◌≡◌, Some, None, Err, sym, ap, ◌∙◌, arith}
use Rattle.std.proofs.lemmas.Result.{err_from_is_err_and}
use Rattle.refusal.specs.declared.hands.TreeFault.TheVariants.{Broken}
use Rattle.browse.specs.Browse.{next_of, next_reply}
use Rattle.browse.specs.Desk.{thing_of, standing, kids_held, kids_of}
use Rattle.browse.proofs.Nexts.{next_broken, next_opens, opening_fits, some_wait}
use Rattle.browse.proofs.view.View.follow.Goals as goal

pub returns-in_err-kids-in-Node : goal.returns-in_err-kids-in-Node
returns-in_err-kids-in-Node g c =
    let m = g.B.Book.model c.args.self.now.book in
    let far = g.M.Measure.distance c.args.self.now.measure c.args.self.now.query in
    let s = standing c.loop-first.desk in
    let none : c.kids_to_open.result ≡ None = grind arith in
    let broken = next_broken m far c.args.limit s (thing_of c.in-Some.first) (sym c.in-Some.ensures) c.in-Node.is (sym c.kids_to_open.ensures ∙ ap kids_of none) in
    let fault = Broken c.in-Some.first.number in
    let p = err_from_is_err_and c.from_residual.result c.from_residual.ensures.1 in
    let same : c.in_err-kids-in-Node.field-0.0 ≡ fault = grind arith in
    let e : c.from_residual.result ≡ Err fault = p.1 ∙ ap Err (p.2 ∙ same) in
    sym c.loop-first.invariant ∙ broken ∙ ap (λ r. (next_reply r, s)) (sym e)

pub open-requires : goal.open-requires
open-requires g c =
    let m = g.B.Book.model c.args.self.now.book in
    let far = g.M.Measure.distance c.args.self.now.measure c.args.self.now.query in
    let s = standing c.loop-first.desk in
    let x = thing_of c.in-Some.first in
    let first = sym c.in-Some.ensures in
    let kids : c.kids_to_open.result ≡ Some c.in_ok-kids-in-Node.kids = grind arith in
    let fits = opening_fits m far c.args.limit s x first (kids_held c.in_ok-kids-in-Node.kids) (sym c.kids_to_open.ensures ∙ ap kids_of kids) in
    record {
      some = omega (arith, some_wait m far c.args.limit s x first);
      few = omega (arith, fits.0, (g.met.B.Book.shape c.args.self.now.book).nodes_most);
      room = fits.1;
    }

pub loop-first-smaller : goal.loop-first-smaller
loop-first-smaller g c =
    let m = g.B.Book.model c.args.self.now.book in
    let far = g.M.Measure.distance c.args.self.now.measure c.args.self.now.query in
    let s = standing c.loop-first.desk in
    let kids : c.kids_to_open.result ≡ Some c.in_ok-kids-in-Node.kids = grind arith in
    let fits = opening_fits m far c.args.limit s (thing_of c.in-Some.first) (sym c.in-Some.ensures) (kids_held c.in_ok-kids-in-Node.kids) (sym c.kids_to_open.ensures ∙ ap kids_of kids) in
    omega (arith, fits.0, ap (λ t. t.opened) c.open.ensures)

pub loop-first-preserved : goal.loop-first-preserved
loop-first-preserved g c =
    let m = g.B.Book.model c.args.self.now.book in
    let far = g.M.Measure.distance c.args.self.now.measure c.args.self.now.query in
    let s = standing c.loop-first.desk in
    let kids : c.kids_to_open.result ≡ Some c.in_ok-kids-in-Node.kids = grind arith in
    ap (next_of m far c.args.limit) c.open.ensures
    ∙ sym (next_opens m far c.args.limit s (thing_of c.in-Some.first) (sym c.in-Some.ensures) (kids_held c.in_ok-kids-in-Node.kids) c.in-Node.is (sym c.kids_to_open.ensures ∙ ap kids_of kids))
    ∙ c.loop-first.invariant
