use native.Mathlib.Omega.{arith}
use Rattle.left_pass.proofs.Shifts.{shift-join}
use Rattle.left_pass.proofs.shift.Goals as goal

pub loop-p-preserved : goal.loop-p-preserved
loop-p-preserved c = (shift-join c.loop-p.invariant.0 c.shift_at.ensures, omega (arith, c.loop-p-test.true))
