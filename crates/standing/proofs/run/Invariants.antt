use Rattle.standing.specs.Sets.{Ran}
use Rattle.standing.proofs.run.Given as goal

abbrev pub invariant-loop : goal.invariant-loop
invariant-loop l = Ran l.code l.firsts l.marks l.size l.n l.main l.initial.sets l.sets
