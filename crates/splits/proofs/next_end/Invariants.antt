use mathlib.Core.Path.{◌≡◌}
use Prim.Native.Nat.{ℕ, ◌+◌, ◌<◌, ◌≤◌}
use lib.ListN.{get_or}
use Rattle.chart.specs.Heights.{none}
use Rattle.splits.proofs.next_end.Given as goal

abbrev pub invariant-loop-e : goal.invariant-loop-e
invariant-loop-e it = (it.fn.m.0 ≤ it.e) × (it.e ≤ it.j.0) × ((l : ℕ) → it.fn.m.0 ≤ l → l < it.e → get_or it.main (it.x + l) 0 ≡ none)
