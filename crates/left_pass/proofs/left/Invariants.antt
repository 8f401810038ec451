use Prim.Native.Nat.{◌+◌, ◌≤◌}
use mathlib.Core.Path.{◌≡◌}
use lib.ListN.{length}
use Rattle.left_pass.proofs.Places.{Passing}
use Rattle.left_pass.proofs.left.Given as goal

abbrev pub invariant-loop-i : goal.invariant-loop-i
invariant-loop-i l = Passing l.table l.code l.text l.size l.top (length l.initial.marks) l.marks l.work l.i × (l.i ≤ l.n + 1) × (l.n ≡ length l.text)
