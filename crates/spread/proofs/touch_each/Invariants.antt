use mathlib.Core.Path.{◌≡◌}
use Prim.Native.Nat.{◌≤◌}
use Rattle.spread.specs.Spread.{AllFlagged, Touching}
use Rattle.spread.proofs.touch_each.Given as goal

abbrev pub invariant-loop-i : goal.invariant-loop-i
invariant-loop-i l = (l.i ≤ l.k) × Touching l.main l.x l.i l.initial.column l.column × ((l.all ≡ 0 → ⊥) → AllFlagged l.i l.column)
