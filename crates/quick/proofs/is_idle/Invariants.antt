use Prim.Native.Nat.{◌≤◌}
use Rattle.quick.proofs.is_idle.Given as goal

abbrev pub invariant-loop-x : goal.invariant-loop-x
invariant-loop-x l = l.x ≤ l.s.size
