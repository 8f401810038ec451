use Rattle.reach.proofs.Queue.{Spreading}
use Rattle.reach.proofs.work.spread.Given as goal

abbrev pub invariant-loop-x : goal.invariant-loop-x
invariant-loop-x l = Spreading l.size l.low l.list l.initial.marks l.initial.work l.marks l.work l.i l.e l.x

abbrev pub decreases-loop-x : goal.decreases-loop-x
decreases-loop-x l = l.x
