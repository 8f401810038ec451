use Rattle.productive.proofs.Items.{Marking}
use Rattle.productive.proofs.mark_live.Given as goal

abbrev pub invariant-loop-p : goal.invariant-loop-p
invariant-loop-p l = Marking l.table l.code l.size l.initial.marks l.marks l.p
