use Prim.Native.Nat.{◌≤◌}
use Rattle.ends.specs.Table.{Rounded}
use Rattle.ends.proofs.round.Given as goal

abbrev pub invariant-loop-rule : goal.invariant-loop-rule
invariant-loop-rule l = (l.rule ≤ l.size) × Rounded l.code l.firsts l.marks l.size l.n l.m l.rule l.initial.main l.main l.grew
