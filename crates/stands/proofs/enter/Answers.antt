use native.Mathlib.Omega.{arith}
use Rattle.stands.proofs.Laws.{enters-less, enters-next}
use Rattle.stands.proofs.enter.Goals as goal

pub loop-x-smaller : goal.loop-x-smaller
loop-x-smaller c =
    omega (arith, c.wide-x-in-loop-x.ensures, enters-less c.requires.linked c.requires.inside c.loop-x.invariant c.loop-x-test.true)

pub loop-x-preserved : goal.loop-x-preserved
loop-x-preserved c =
    rw c.wide-x-in-loop-x.ensures (enters-next c.requires.linked c.requires.inside c.loop-x.invariant c.loop-x-test.true (omega (arith, c.min-low.ensures))
    (omega (arith, c.min-low.ensures)) c.set_out.ensures)
