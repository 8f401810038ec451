use mathlib.Core.Path.{◌≡◌}
use Prim.Native.Nat.{◌/◌, ◌<◌}
use Rattle.confirm.specs.Find.{Best}
use Rattle.confirm.proofs.far_row.Given as goal

abbrev pub invariant-loop-x : goal.invariant-loop-x
invariant-loop-x l = Best l.table l.code l.text l.size l.sets (λ q i. (q ≡ l.p) × (i / 32 < l.x)) l.best l.far
