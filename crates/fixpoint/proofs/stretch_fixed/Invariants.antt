use Prim.Native.Nat.{◌≤◌}
use Rattle.fixpoint.specs.Fixed.{DotsFixed}
use Rattle.fixpoint.proofs.stretch_fixed.Given as goal

abbrev pub invariant-loop-p : goal.invariant-loop-p
invariant-loop-p l = (l.p ≤ l.size) × DotsFixed l.code l.fits l.size l.at.n l.main l.at.i l.at.j l.p
