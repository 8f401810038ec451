use Rattle.stands.proofs.Laws.{Enters}
use Rattle.stands.proofs.enter.Given as goal

abbrev pub invariant-loop-x : goal.invariant-loop-x
invariant-loop-x l = Enters l.firsts l.initial.flags l.flags l.size l.at l.rule l.next l.low l.x

abbrev pub decreases-loop-x : goal.decreases-loop-x
decreases-loop-x l = l.x
