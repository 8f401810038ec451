use mathlib.Core.Path.{◌≡◌}
use Prim.Native.Nat.{◌≤◌}
use lib.ListN.{length}
use Rattle.fixpoint.specs.Fixed.{Leasts}
use Rattle.fixpoint.proofs.rule_heights.Given as goal

abbrev pub invariant-loop-p : goal.invariant-loop-p
invariant-loop-p l =
    (l.p ≤ l.size) × (length l.heights ≡ length l.initial.heights) × Leasts l.code l.main l.size l.at.n l.at.i l.at.j l.p l.heights
