use Prim.Native.Nat.{◌+◌, ◌≤◌}
use mathlib.Core.Path.{◌≡◌}
use lib.ListN.{length}
use Rattle.right_pass.proofs.Rightward.{Passing}
use Rattle.right_pass.proofs.right.Given as goal

abbrev pub invariant-loop-rest : goal.invariant-loop-rest
invariant-loop-rest l = Passing l.table l.code l.text l.size l.top (length l.initial.marks) l.marks l.work l.rest × (l.rest ≤ l.n + 1) × (l.n ≡ length l.text)
