use Rattle.settle.proofs.Carrying.{Carrying}
use Rattle.settle.proofs.carry.Given as goal

abbrev pub invariant-loop-s : goal.invariant-loop-s
invariant-loop-s l = Carrying l.code l.marks l.notes l.s.size l.s.n.0 l.s.i.0 l.s.j.0 l.initial.main l.initial.queue l.main l.queue l.initial.dot l.initial.height l.dot l.height

abbrev pub decreases-loop-s : goal.decreases-loop-s
decreases-loop-s l = l.dot
