use Prim.Native.Nat.{◌/◌, ◌≤◌}
use Rattle.ends.proofs.Cells.{Finishing}
use Rattle.ends.proofs.finish.Given as goal

abbrev pub invariant-loop-w : goal.invariant-loop-w
invariant-loop-w l = (l.m / 32 ≤ l.w) × Finishing l.n l.initial.main l.main l.rule l.m l.cur l.w l.grew
