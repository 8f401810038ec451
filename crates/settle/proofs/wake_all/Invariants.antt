use Rattle.settle.proofs.Waking.{Awake}
use Rattle.settle.proofs.wake_all.Given as goal

abbrev pub invariant-loop-k : goal.invariant-loop-k
invariant-loop-k l = Awake l.code l.marks l.notes l.s.size l.s.n.0 l.s.i.0 l.s.j.0 l.initial.main l.initial.queue l.main l.queue l.column l.k
