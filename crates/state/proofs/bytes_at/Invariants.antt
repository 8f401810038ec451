use Prim.Native.Nat.{◌≤◌}
use lib.ListN.{length}
use Rattle.state.proofs.Cells.{Upto}
use Rattle.state.proofs.bytes_at.Given as goal

abbrev pub invariant-loop-i : goal.invariant-loop-i
invariant-loop-i l = (l.i ≤ length l.bytes) × Upto l.state l.bytes l.at l.i
