use Prim.Native.Nat.{◌≤◌}
use Rattle.ends.specs.Table.{Opened}
use Rattle.ends.proofs.begin.Given as goal

abbrev pub invariant-loop-rule : goal.invariant-loop-rule
invariant-loop-rule l = (l.rule ≤ l.size) × Opened l.marks l.size l.n l.m 0 l.rule l.initial.main l.main l.some
