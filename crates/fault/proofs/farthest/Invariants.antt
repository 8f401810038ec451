use Prim.Native.Nat.{◌+◌, ◌≤◌}
use Rattle.fault.specs.Far.{Reach}
use Rattle.fault.proofs.farthest.Given as goal

abbrev pub invariant-loop-i : goal.invariant-loop-i
invariant-loop-i l = Reach l.table l.code l.text l.flags l.size l.i l.far × (l.i ≤ l.n.0 + 1)
