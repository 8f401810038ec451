use Prim.Native.Nat.{◌≤◌}
use Rattle.fault.specs.Far.{Ranged}
use Rattle.fault.proofs.farthest_at.Given as goal

abbrev pub invariant-loop-p : goal.invariant-loop-p
invariant-loop-p l = Ranged l.table l.code l.text l.flags l.size l.i.0 0 l.p l.best l.far × (l.p ≤ l.size)
