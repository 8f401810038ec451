use Prim.Native.Nat.{◌-◌}
use Rattle.right_pass.proofs.Drains.{Draining}
use Rattle.right_pass.proofs.close.Given as goal

abbrev pub invariant-loop-head : goal.invariant-loop-head
invariant-loop-head l = Draining l.code l.size l.initial.marks l.initial.work l.marks l.work l.j l.head

abbrev pub decreases-loop-head : goal.decreases-loop-head
decreases-loop-head l = 512 - l.head
