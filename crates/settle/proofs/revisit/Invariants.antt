use Rattle.settle.proofs.Using.{Revisiting}
use Rattle.settle.proofs.revisit.Given as goal

abbrev pub invariant-loop-u : goal.invariant-loop-u
invariant-loop-u l = Revisiting l.code l.marks l.notes l.s.size l.s.n.0 l.s.i.0 l.s.j.0 l.initial.main l.initial.queue l.main l.queue l.rule l.u

abbrev pub decreases-loop-u : goal.decreases-loop-u
decreases-loop-u l = l.u
