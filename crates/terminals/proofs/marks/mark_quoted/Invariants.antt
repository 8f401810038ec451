use Rattle.terminals.proofs.Marking.{Quoting}
use Rattle.terminals.proofs.marks.mark_quoted.Given as goal

abbrev pub invariant-loop-k : goal.invariant-loop-k
invariant-loop-k l = Quoting l.table l.at l.n l.initial.places l.places l.k
