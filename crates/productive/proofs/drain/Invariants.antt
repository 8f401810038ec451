use Prim.Native.Nat.{◌-◌}
use Rattle.productive.proofs.Visits.{Drains}
use Rattle.productive.proofs.drain.Given as goal

abbrev pub invariant-loop-head : goal.invariant-loop-head
invariant-loop-head l = Drains l.code l.size l.initial.marks l.initial.missing l.initial.queue l.marks l.missing l.queue l.head

abbrev pub decreases-loop-head : goal.decreases-loop-head
decreases-loop-head l = 512 - l.head
