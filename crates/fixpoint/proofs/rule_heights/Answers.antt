use mathlib.Core.Path.{◌∙◌}
use Rattle.fixpoint.proofs.Tests.{leasts-next}
use native.Mathlib.Omega.{arith}
use Rattle.fixpoint.proofs.rule_heights.Goals as goal

pub loop-p-preserved : goal.loop-p-preserved
loop-p-preserved c =
    (omega (arith, c.loop-p-test.true), c.lower.auto.heights ∙ c.loop-p.invariant.1, leasts-next _ _ _ _ _ _ _ _ _ c.loop-p.invariant.2 c.lower.ensures)
