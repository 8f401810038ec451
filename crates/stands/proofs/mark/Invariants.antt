use Rattle.stands.proofs.Laws.{Marks}
use Rattle.stands.proofs.mark.Given as goal

abbrev pub invariant-loop-i : goal.invariant-loop-i
invariant-loop-i l = Marks l.code l.firsts l.marks l.notes l.main l.flags l.size l.n.0 l.p l.i
