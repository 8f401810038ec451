use Rattle.productive.proofs.Visits.{Visits}
use Rattle.productive.proofs.visit.Given as goal

abbrev pub invariant-loop-x : goal.invariant-loop-x
invariant-loop-x l = Visits l.code l.size l.initial.marks l.initial.missing l.initial.queue l.marks l.missing l.queue l.e l.x

abbrev pub decreases-loop-x : goal.decreases-loop-x
decreases-loop-x l = l.x
