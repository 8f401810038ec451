use mathlib.Core.Path.{◌≡◌}
use mathlib.Core.List.{List}
use Prim.Native.Nat.{ℕ, ◌-◌, ◌<◌}
use lib.ListN.{length}
use Rattle.standing.specs.Stood.{Base}
use Rattle.standing.specs.Sets.{AtDot, Told}
use Rattle.standing.proofs.follow.Given as goal

abbrev pub invariant-loop-cur : goal.invariant-loop-cur
invariant-loop-cur l = (l.p < l.size) ×
    ((L : List ℕ) (top : ℕ) → Base l.code L l.marks l.size l.n top l.main → Told l.code L l.marks l.n top l.initial.sets → AtDot l.code L l.marks l.n top l.initial.p l.initial.cur
    → Told l.code L l.marks l.n top l.sets × AtDot l.code L l.marks l.n top l.p l.cur) × (length l.sets ≡ length l.initial.sets)

abbrev pub decreases-loop-cur : goal.decreases-loop-cur
decreases-loop-cur l = l.size - l.p
