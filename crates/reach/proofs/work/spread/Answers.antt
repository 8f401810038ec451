use native.Mathlib.Omega.{arith}
use Rattle.reach.proofs.Queue.{spread-less, spread-next, spread_end}
use Rattle.reach.proofs.work.spread.Goals as goal

pub loop-x-smaller : goal.loop-x-smaller
loop-x-smaller c = omega (
  arith,
  c.wide-x-in-loop-x.ensures,
  spread-less c.loop-x.invariant
      c.requires.linked
      c.loop-x-test.true,
)

pub loop-x-preserved : goal.loop-x-preserved
loop-x-preserved c = rw c.wide-x-in-loop-x.ensures (spread-next c.loop-x.invariant
    c.requires.linked
    c.loop-x-test.true c.lift.ensures)

pub returns : goal.returns
returns c = spread_end c.loop-x.invariant (λ z. omega (arith, c.loop-x-test.false))
