use native.Mathlib.Omega.{arith}
use Rattle.stands.proofs.Laws.{passed-next, passed-end}
use Rattle.stands.proofs.pass.Goals as goal

pub loop-m-preserved : goal.loop-m-preserved
loop-m-preserved c =
    (passed-next c.loop-m.invariant.1 c.loop-m.invariant.0 c.pass_at.ensures, omega (arith, c.loop-m.invariant.1), omega (arith, c.loop-m-test.true))

pub returns : goal.returns
returns c = passed-end (omega (arith, c.loop-m.invariant.2, c.loop-m-test.false)) c.loop-m.invariant.0
