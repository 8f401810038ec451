use Rattle.terminals.proofs.Marking.{Stepping}
use Rattle.terminals.proofs.marks.mark.Given as goal

abbrev pub invariant-loop-k : goal.invariant-loop-k
invariant-loop-k l = Stepping l.initial.marks l.marks l.from l.past l.k
