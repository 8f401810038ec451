use Prim.Native.Nat.{◌+◌, ◌≤◌}
use Rattle.fixpoint.specs.Fixed.{StartsFixed}
use Rattle.fixpoint.proofs.column_fixed.Given as goal

abbrev pub invariant-loop-i : goal.invariant-loop-i
invariant-loop-i l = (l.i ≤ l.j + 1) × StartsFixed l.code l.fits l.size l.n l.main l.j l.i
