use Prim.Native.Nat.{◌-◌}
use Rattle.fault.proofs.Alike.{Agreeing}
use Rattle.fault.proofs.common.Given as goal

abbrev pub invariant-loop-k : goal.invariant-loop-k
invariant-loop-k l = Agreeing l.table l.at l.count l.text l.i l.k

abbrev pub decreases-loop-k : goal.decreases-loop-k
decreases-loop-k l = l.count - l.k
