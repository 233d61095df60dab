use Rattle.std.proofs.Common.{◌+◌, ◌-◌, ap, ◌∙◌, arith}
use Rattle.book.specs.Model.{node_count}
use Rattle.makes.specs.Seam.{along}
use Rattle.makes.proofs.Fits.{fits_yes, joined_yes, joined_no, seam_level, seam_nodes, seam_picks, seam_some, root_level}
use Rattle.makes.proofs.Joins.{along_both}
use Rattle.makes.proofs.join.measured.Goals as goal

pub returns-in_err-ok : goal.returns-in_err-ok
unfolding along
returns-in_err-ok g c =
    let l = g.L.Book.model c.args.left.now in
    let r = g.R.Book.model c.args.right.now in
    ap (λ s. along s l r) c.from_residual.ensures ∙ joined_no l r c.fits.result c.fits.ensures c.in_err-ok.ensures.value

pub overflow_add-result : goal.overflow_add-result
overflow_add-result g c =
    let l = g.L.Book.model c.args.left.now in
    omega (arith, root_level l c.sizes-first.result c.level.result c.sizes-first.ensures c.level.ensures, (g.met.L.Book.shape c.args.left.now).levels_most (node_count l - 1))

pub invariant_of-result : goal.invariant_of-result
invariant_of-result g c =
    let l = g.L.Book.model c.args.left.now in
    let r = g.R.Book.model c.args.right.now in
    let fit = fits_yes l r c.fits.result c.fits.ensures c.in_ok-ok.field-0 c.in_ok-ok.ensures.value in
    let shape = g.met.L.Book.shape c.args.left.now in
    let first = c.sizes-first.ensures in
    let second = c.sizes-second.ensures in
    record {
      some = seam_some l _ first shape;
      nodes = seam_nodes l r _ _ first second fit;
      picks = seam_picks l r _ _ first second fit;
      low = seam_level l r fit shape c.level.result (root_level l _ _ first c.level.ensures);
    }

pub returns : goal.returns
returns g c =
    let l = g.L.Book.model c.args.left.now in
    let r = g.R.Book.model c.args.right.now in
    let first = c.sizes-first.ensures in
    along_both l r _ first c.sizes-second.ensures (ap (λ n. n + 1) (root_level l _ _ first c.level.ensures))
    c.root_box.ensures c.root_box-2.ensures
    ∙ joined_yes l r c.fits.result c.fits.ensures c.in_ok-ok.field-0 c.in_ok-ok.ensures.value
