use Prim.Native.Nat.{◌+◌, ◌≤◌}
use Rattle.stands.specs.State.{Passed}
use Rattle.stands.proofs.pass.Given as goal

abbrev pub invariant-loop-m : goal.invariant-loop-m
invariant-loop-m l = Passed l.marks l.notes l.main l.initial.flags l.flags l.rule l.s.n.0 l.s.i.0 l.s.p l.m × (l.s.i.0 ≤ l.m) × (l.m ≤ l.s.n.0 + 1)
