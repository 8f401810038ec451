use Prim.Native.Nat.{◌/◌, ◌≤◌}
use Rattle.ends.proofs.Cells.{Clearing}
use Rattle.ends.proofs.clear_row.Given as goal

abbrev pub invariant-loop-w : goal.invariant-loop-w
invariant-loop-w l = (l.m / 32 ≤ l.w) × Clearing l.n l.initial.main l.main l.rule l.m l.w
