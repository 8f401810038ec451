use Prim.Native.Nat.{ℕ}
use mathlib.Core.Path.{ap, ◌∙◌}
use Rattle.chart.specs.Code.{goes_at}
use Rattle.candidates.proofs.Lines.{ends-one}
use Rattle.candidates.proofs.alternatives.next_alternative.Goals as goal

pub returns : goal.returns
returns c =
    let args = c.args in
    λ e E. c.number_at.ensures.0 ∙ ap (λ (z : ℕ). goes_at args.code.now z) (ends-one c.alternative_end-e.ensures E)
