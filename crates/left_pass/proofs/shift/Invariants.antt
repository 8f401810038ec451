use Prim.Native.Nat.{◌≤◌}
use Rattle.left_pass.specs.Left.{Shifted}
use Rattle.left_pass.proofs.shift.Given as goal

abbrev pub invariant-loop-p : goal.invariant-loop-p
invariant-loop-p l = Shifted l.table l.code l.text l.size l.initial.marks l.marks l.i 0 l.p × (l.p ≤ l.size)
