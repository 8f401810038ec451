use native.Mathlib.Omega.{arith}
use Rattle.fault.proofs.Alike.{agreeing-start, agreeing-next, agreeing-end}
use Rattle.fault.proofs.common.Goals as goal

pub loop-k-init : goal.loop-k-init
loop-k-init c = agreeing-start c.requires

pub agrees-requires : goal.agrees-requires
agrees-requires c = (c.requires, c.loop-k.invariant.low, c.loop-k.invariant.on)

pub overflow_add-k : goal.overflow_add-k
overflow_add-k c = omega (arith, (c.agrees.ensures.yes c.loop-k-test.true).0, c.requires.small, c.requires.inside)

pub loop-k-smaller : goal.loop-k-smaller
loop-k-smaller c = omega (arith, (c.agrees.ensures.yes c.loop-k-test.true).0)

pub loop-k-preserved : goal.loop-k-preserved
loop-k-preserved c = agreeing-next c.requires c.loop-k.invariant (c.agrees.ensures.yes c.loop-k-test.true)

pub returns : goal.returns
returns c = agreeing-end c.requires c.loop-k.invariant (c.agrees.ensures.no c.loop-k-test.false)
