use Prim.Native.Nat.{◌-◌}
use lib.ListN.{length}
use Rattle.terminals.proofs.Marking.{Marking}
use Rattle.terminals.proofs.marks.mark_members.Given as goal

abbrev pub invariant-loop-at : goal.invariant-loop-at
invariant-loop-at l = Marking l.table l.from l.initial.places l.initial.categories l.places l.categories l.at

abbrev pub decreases-loop-at : goal.decreases-loop-at
decreases-loop-at l = length l.table - l.at
