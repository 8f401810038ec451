use native.Mathlib.Omega.{arith}
use Rattle.fault.proofs.Ranges.{reach-none, reach-join, reach-end, ranging-at}
use Rattle.fault.proofs.farthest.Goals as goal

pub loop-i-init : goal.loop-i-init
loop-i-init c = (reach-none, omega arith)

pub farthest_at-far-requires : goal.farthest_at-far-requires
farthest_at-far-requires c = (ranging-at _ c.requires.0 (omega (arith, c.loop-i-test.true)), c.requires.1)

pub loop-i-smaller : goal.loop-i-smaller
loop-i-smaller c = omega (arith, c.loop-i-test.true)

pub loop-i-preserved : goal.loop-i-preserved
loop-i-preserved c = (reach-join c.loop-i.invariant.0 c.farthest_at-far.ensures, omega (arith, c.loop-i-test.true))

pub returns : goal.returns
returns c = reach-end _ (omega (arith, c.loop-i.invariant.1, c.loop-i-test.false)) c.loop-i.invariant.0
