use native.Mathlib.Omega.{arith}
use Rattle.reach.proofs.Queue.{collect-start, collect-here, collect-join, collect-end}
use Rattle.reach.proofs.work.collect.Goals as goal

pub loop-p-init : goal.loop-p-init
loop-p-init c = collect-here (collect-start c.requires)

pub returns : goal.returns
returns c = collect-end (collect-join (collect-start c.requires) c.loop-p.invariant) (omega (arith, c.loop-p-test.false))
