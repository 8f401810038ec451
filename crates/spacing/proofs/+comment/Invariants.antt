use Prim.Native.Nat.{◌-◌}
use lib.ListN.{length}
use Rattle.spacing.proofs.Spacing.{Inner}
use Rattle.spacing.proofs.+comment.Given as goal

abbrev pub decreases-comment : goal.decreases-comment
decreases-comment l = l.d

abbrev pub invariant-loop-at : goal.invariant-loop-at
invariant-loop-at l = Inner l.text l.d l.initial.at.0 l.at.0

abbrev pub decreases-loop-at : goal.decreases-loop-at
decreases-loop-at l = length l.text - l.at.0
