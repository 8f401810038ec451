use Prim.Native.Nat.{◌≤◌}
use Rattle.empties.specs.Empty.{Moved}
use Rattle.empties.proofs.Moves.{From}
use Rattle.empties.proofs.sweep.Given as goal

abbrev pub invariant-loop-p : goal.invariant-loop-p
invariant-loop-p l = (l.p ≤ l.size) × Moved l.code l.size (From l.code l.size l.p) l.initial.notes l.fell l.notes
