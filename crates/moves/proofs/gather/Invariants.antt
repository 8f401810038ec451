use Prim.Native.Nat.{◌≤◌}
use Rattle.moves.specs.Moves.{Gathered}
use Rattle.moves.proofs.gather.Given as goal

abbrev pub invariant-loop-b : goal.invariant-loop-b
invariant-loop-b l = (l.b ≤ l.count) × Gathered l.main l.at l.on l.b l.acc
