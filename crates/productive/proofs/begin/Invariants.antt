use Prim.Native.Nat.{◌≤◌}
use Rattle.productive.specs.State.{Begun}
use Rattle.productive.proofs.begin.Given as goal

abbrev pub invariant-loop-p : goal.invariant-loop-p
invariant-loop-p l = Begun l.code l.size l.initial.marks l.initial.missing l.initial.queue l.marks l.missing l.queue 0 l.p × (l.p ≤ l.size)
