use native.Mathlib.Omega.{arith}
use Rattle.productive.proofs.Steps.{begun-join, begun_all}
use Rattle.productive.proofs.begin.Goals as goal

pub loop-p-preserved : goal.loop-p-preserved
loop-p-preserved c =
    (begun-join c.loop-p.invariant.0 c.begin_at.ensures, omega (arith, c.loop-p-test.true))

pub returns : goal.returns
returns c = begun_all c.loop-p.invariant.0 c.loop-p-test.false
