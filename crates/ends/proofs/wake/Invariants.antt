use Prim.Native.Nat.{◌≤◌}
use Rattle.ends.proofs.wake.Given as goal

abbrev pub invariant-loop-x : goal.invariant-loop-x
invariant-loop-x l = l.x ≤ 512

abbrev pub decreases-loop-x : goal.decreases-loop-x
decreases-loop-x l = l.x
