use Rattle.std.proofs.Common.{◌+ℤ◌, ◌∙◌, arith}
use Rattle.std.proofs.lemmas.Int.{ints}
use Rattle.geometry.proofs.Moves.{in_range_fits}
use Rattle.geometry.proofs.Spans.{no_span}
use Rattle.geometry.proofs.bounds.Span.moved.Goals as goal

pub returns-in_err-low : goal.returns-in_err-low
returns-in_err-low c =
    c.from_residual.ensures
    ∙ no_span (c.args.self.now.low +ℤ c.args.by) (c.args.self.now.high +ℤ c.args.by)
    (λ p q r. c.in_err-low.ensures (in_range_fits _ (omega (arith, ints)) (omega (arith, ints))))

pub returns-in_err-high : goal.returns-in_err-high
returns-in_err-high c =
    c.from_residual-in_err-high.ensures
    ∙ no_span (c.args.self.now.low +ℤ c.args.by) (c.args.self.now.high +ℤ c.args.by)
    (λ p q r. c.in_err-high.ensures (in_range_fits _ (omega (arith, ints)) (omega (arith, ints))))
