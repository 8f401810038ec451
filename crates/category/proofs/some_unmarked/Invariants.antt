use mathlib.Core.Path.{◌≡◌}
use mathlib.Core.Bool.{true}
use Prim.Native.Nat.{ℕ, ◌<◌, ◌≤◌}
use Rattle.category.specs.Marks.{marked}
use Rattle.category.proofs.some_unmarked.Given as goal

abbrev pub invariant-loop-k : goal.invariant-loop-k
invariant-loop-k l = (l.k ≤ 498) × ((j : ℕ) → j < l.k → marked l.places l.categories j ≡ true)
