use Rattle.ends.specs.Table.{Settled}
use Rattle.ends.proofs.settle.Given as goal

abbrev pub invariant-loop : goal.invariant-loop
invariant-loop l = Settled l.code l.firsts l.marks l.size l.n l.m l.initial.main l.main
