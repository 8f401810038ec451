use Prim.Native.Nat.{ℕ, ◌+◌, ◌<◌, ◌≤◌}
use lib.ListN.{get_or}
use Rattle.spread.proofs.low_run.Given as goal

abbrev pub invariant-loop-i : goal.invariant-loop-i
invariant-loop-i l = (l.i ≤ l.k) × ((q : ℕ) → l.i ≤ q → q < l.k → get_or l.main (l.z + q) 0 ≤ l.h + 1)
