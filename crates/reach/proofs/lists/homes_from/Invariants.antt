use Rattle.reach.proofs.Keys.{HomesTo}
use Rattle.reach.proofs.lists.homes_from.Given as goal

abbrev pub invariant-loop-p : goal.invariant-loop-p
invariant-loop-p l = HomesTo l.code l.size l.from l.initial.table l.table l.p l.last
