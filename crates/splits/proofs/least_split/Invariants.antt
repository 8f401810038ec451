use Prim.Native.Nat.{◌+◌, ◌-◌}
use Rattle.splits.proofs.Values.{Sought}
use Rattle.splits.proofs.least_split.Given as goal

abbrev pub invariant-loop-m : goal.invariant-loop-m
invariant-loop-m l = Sought l.code l.marks l.notes l.s.n.0 l.main l.p l.s.i.0 l.s.j.0 l.v l.m.0

abbrev pub decreases-loop-m : goal.decreases-loop-m
decreases-loop-m l = l.s.j.0 + 1 - l.m.0
