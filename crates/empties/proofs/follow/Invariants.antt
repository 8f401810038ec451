use Prim.Native.Nat.{◌≤◌}
use Rattle.heights.specs.Filling.{total}
use Rattle.empties.specs.Empty.{Eased}
use Rattle.empties.proofs.follow.Given as goal

abbrev pub invariant-loop-x : goal.invariant-loop-x
invariant-loop-x l = (l.x ≤ l.size) × Eased l.code l.size l.initial.notes l.notes

abbrev pub decreases-loop-x : goal.decreases-loop-x
decreases-loop-x l = total l.notes
