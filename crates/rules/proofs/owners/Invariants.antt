use Rattle.rules.proofs.Arrays.{Owning}
use Rattle.rules.proofs.owners.Given as goal

abbrev pub invariant-loop-p : goal.invariant-loop-p
invariant-loop-p l = Owning l.table l.size l.initial.code l.code l.p l.last
