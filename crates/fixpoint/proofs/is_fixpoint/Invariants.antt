use Prim.Native.Nat.{◌+◌, ◌≤◌}
use Rattle.fixpoint.specs.Fixed.{EndsFixed}
use Rattle.fixpoint.proofs.is_fixpoint.Given as goal

abbrev pub invariant-loop-j : goal.invariant-loop-j
invariant-loop-j l = (l.j ≤ l.n + 1) × EndsFixed l.code l.fits l.size l.n l.main l.j
