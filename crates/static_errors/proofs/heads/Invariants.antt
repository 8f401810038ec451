use Prim.Native.Nat.{◌-◌}
use Rattle.static_errors.proofs.Scans as law
use Rattle.static_errors.proofs.heads.Given as goal

abbrev pub invariant-loop-k : goal.invariant-loop-k
invariant-loop-k l = law.HeadsAt l.table l.end l.initial.index l.index l.n l.k

abbrev pub decreases-loop-k : goal.decreases-loop-k
decreases-loop-k l = l.end - l.k
