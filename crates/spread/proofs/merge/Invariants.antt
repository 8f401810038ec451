use mathlib.Core.List.{List}
use mathlib.Core.Path.{◌≡◌}
use Prim.Native.Nat.{ℕ, ◌≤◌}
use lib.ListN.{length}
use Rattle.spread.specs.Spread.{Merging, Merged}
use Rattle.spread.proofs.merge.Given as goal

abbrev pub invariant-loop-i : goal.invariant-loop-i
invariant-loop-i l =
    (l.i ≤ l.k) × (length l.main ≡ length l.initial.main)
    × ((o M F : List ℕ) (size n m j p : ℕ) → Merging o M F size n m j l.initial.main p l.x l.y l.k l.h → Merged o M F size n m j l.initial.main p l.i l.main)
