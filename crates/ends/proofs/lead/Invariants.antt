use Prim.Native.Nat.{◌-◌, ◌≤◌}
use Rattle.ends.specs.Table.{Led}
use Rattle.ends.proofs.lead.Given as goal

abbrev pub invariant-loop-p : goal.invariant-loop-p
invariant-loop-p l = (l.x ≤ l.s.n) × Led l.code l.marks l.s.size l.s.n l.s.m l.q l.p l.x

abbrev pub decreases-loop-p : goal.decreases-loop-p
decreases-loop-p l = l.s.size - l.p
