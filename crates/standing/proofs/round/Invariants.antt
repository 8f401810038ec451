use Prim.Native.Nat.{◌≤◌}
use Rattle.standing.specs.Sets.{Rounded}
use Rattle.standing.proofs.round.Given as goal

abbrev pub invariant-loop-p : goal.invariant-loop-p
invariant-loop-p l = (l.p ≤ l.size) × Rounded l.code l.firsts l.marks l.size l.n l.p l.main l.initial.sets l.sets l.grew
