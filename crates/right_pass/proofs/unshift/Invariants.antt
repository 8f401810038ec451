use Prim.Native.Nat.{◌≤◌}
use Rattle.right_pass.specs.Right.{Unshifted}
use Rattle.right_pass.proofs.unshift.Given as goal

abbrev pub invariant-loop-p : goal.invariant-loop-p
invariant-loop-p l = Unshifted l.code l.size l.initial.marks l.marks l.j 0 l.p × (l.p ≤ l.size)
