use Prim.Native.Nat.{◌+◌, ◌≤◌}
use Rattle.full.specs.Whole.{Marked}
use Rattle.full.proofs.mark_all.Given as goal

abbrev pub invariant-loop-i : goal.invariant-loop-i
invariant-loop-i l = Marked l.code l.fits l.size l.i l.marks × (l.i ≤ l.n + 1)
