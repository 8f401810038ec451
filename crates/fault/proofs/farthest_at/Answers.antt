use native.Mathlib.Omega.{arith}
use Rattle.fault.proofs.Ranges.{ranged-none, ranged-join, ranged-end}
use Rattle.fault.proofs.farthest_at.Goals as goal

pub loop-p-init : goal.loop-p-init
loop-p-init c = (ranged-none, omega arith)

pub farther-far-requires : goal.farther-far-requires
farther-far-requires c = (c.requires.0, c.loop-p-test.true, c.requires.1)

pub loop-p-smaller : goal.loop-p-smaller
loop-p-smaller c = omega (arith, c.loop-p-test.true)

pub loop-p-preserved : goal.loop-p-preserved
loop-p-preserved c = (ranged-join c.loop-p.invariant.0 c.farther-far.ensures, omega (arith, c.loop-p-test.true))

pub returns : goal.returns
returns c = ranged-end (omega (arith, c.loop-p.invariant.1, c.loop-p-test.false)) c.loop-p.invariant.0
