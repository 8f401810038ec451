use mathlib.Core.Path.{◌≡◌}
use mathlib.Core.List.{List}
use Prim.Native.Nat.{ℕ}
use lib.ListN.{length}
use Rattle.left_parse.specs.Walk.{weight}
use Rattle.left_parse.specs.Steps.{Going}
use Rattle.left_parse.proofs.note.Given as goal

abbrev pub invariant-loop-scratch : goal.invariant-loop-scratch
invariant-loop-scratch l = (length l.scratch ≡ length l.initial.scratch)
    × ((F : List ℕ) × (e : ℕ) × (i : ℕ) × Going l.table l.parse l.scratch l.h F e i)
    × ((F : List ℕ) (e i : ℕ) → Going l.table l.parse l.initial.scratch l.initial.h F e i → Going l.table l.parse l.scratch l.h F e i)

abbrev pub decreases-loop-scratch : goal.decreases-loop-scratch
decreases-loop-scratch l = weight l.table l.parse l.h
