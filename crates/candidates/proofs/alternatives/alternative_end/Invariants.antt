use Prim.Native.Nat.{◌-◌}
use lib.ListN.{length}
use Rattle.candidates.proofs.Searches.{Unmet, EndIs}
use Rattle.candidates.proofs.alternatives.alternative_end.Given as goal

abbrev pub invariant-loop-p : goal.invariant-loop-p
invariant-loop-p l = Unmet (EndIs l.code) l.q l.p

abbrev pub decreases-loop-p : goal.decreases-loop-p
decreases-loop-p l = length l.code - l.p
