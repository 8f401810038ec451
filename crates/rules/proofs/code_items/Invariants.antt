use Rattle.rules.proofs.Arrays.{Coding}
use Rattle.rules.proofs.code_items.Given as goal

abbrev pub invariant-loop-p : goal.invariant-loop-p
invariant-loop-p l = Coding l.table l.size l.initial.code l.code l.p
