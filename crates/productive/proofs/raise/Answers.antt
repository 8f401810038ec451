use native.Mathlib.Omega.{arith}
use mathlib.Core.Path.{refl}
use Rattle.productive.proofs.Steps.{raise-next}
use Rattle.productive.proofs.raise.Goals as goal

pub loop-marks-preserved : goal.loop-marks-preserved
loop-marks-preserved c = (
  raise-next c.loop-marks.invariant.0 c.loop-marks.invariant.1 (rw (c.loop-marks-test.true, c.if-marks-q.true) refl) c.mark.ensures,
  omega (arith, c.loop-marks.invariant.1),
)
