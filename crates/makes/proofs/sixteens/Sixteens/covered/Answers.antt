use Rattle.std.proofs.Common.{ap, ◌∙◌, ⊎_elim}
use Rattle.makes.specs.Covered.{covered_place}
use Rattle.makes.specs.Covers.{place_none, place_wide, place_past, place_covered}
use Rattle.makes.proofs.sixteens.Sixteens.covered.Goals as goal

pub returns-in_err-row-clause-place : goal.returns-in_err-row-clause-place
returns-in_err-row-clause-place c =
    let s = c.args.self.now in
    λ bs e. ap (covered_place bs) c.from_residual.ensures ∙ place_none s.count c.args.node bs e s.few c.args.index c.in_err-row.ensures

pub returns-then-index-ge16-clause-place : goal.returns-then-index-ge16-clause-place
returns-then-index-ge16-clause-place c =
    let s = c.args.self.now in
    λ bs e.
    ⊎_elim
    (place_wide s.count c.args.node bs e s.few c.in_ok-row.row c.in_ok-row.ensures s.some c.args.index)
    (λ h. place_past s.count c.args.node bs e s.few c.in_ok-row.row c.in_ok-row.ensures s.some c.args.index h.0 h.1)
    c.then-index-ge16.either

pub returns-clause-place : goal.returns-clause-place
returns-clause-place c =
    let s = c.args.self.now in
    λ bs e. place_covered s.count c.args.node bs e s.few c.in_ok-row.row c.in_ok-row.ensures s.some c.args.index c.min.result c.if-index-ge16.false c.min.ensures
