use Prim.Native.Nat.{◌-◌}
use lib.ListN.{length}
use Rattle.spacing.proofs.Spacing.{Outer}
use Rattle.spacing.proofs.skip.Given as goal

abbrev pub invariant-loop-at : goal.invariant-loop-at
invariant-loop-at l = Outer l.text l.initial.at.0 l.at.0

abbrev pub decreases-loop-at : goal.decreases-loop-at
decreases-loop-at l = length l.text - l.at.0
