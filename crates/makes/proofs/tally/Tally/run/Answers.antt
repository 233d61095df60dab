use Rattle.std.proofs.Common.{◌-◌, ap, ◌∙◌}
use Rattle.geometry.specs.Bounds.{bounds_at}
use Rattle.makes.specs.Tally.{collar_at}
use Rattle.makes.specs.Collars.{run_is}
use Rattle.makes.proofs.tally.Tally.run.Goals as goal

pub returns : goal.returns
returns c =
    let t = c.args.self.now in
    c.between.ensures
    ∙ ap (λ p. bounds_at p c.collar-highest.result) c.collar-lowest.ensures
    ∙ ap (bounds_at (collar_at t.top t.joints.length (c.args.end - 1))) c.collar-highest.ensures
    ∙ run_is t c.args.start c.args.end c.requires.some c.requires.inside
