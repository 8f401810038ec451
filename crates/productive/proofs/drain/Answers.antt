use native.Mathlib.Omega.{arith}
use Rattle.productive.proofs.Visits.{drain-next}
use Rattle.productive.proofs.drain.Goals as goal

pub loop-head-preserved : goal.loop-head-preserved
loop-head-preserved c =
    drain-next c.loop-head.invariant (omega (arith, c.loop-head-test.true, c.wide.ensures)) (rw c.wide-e.ensures at c.visit.ensures)
