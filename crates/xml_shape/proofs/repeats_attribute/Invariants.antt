use mathlib.Core.Path.{◌≡◌}
use Prim.Native.Nat.{◌≤◌}
use lib.ListN.{length}
use Rattle.cursor.specs.Events.{weight}
use Rattle.cursor.proofs.Folds.{Reached}
use Rattle.xml_shape.proofs.Folds.{Tally}
use Rattle.xml_shape.proofs.repeats_attribute.Given as goal

abbrev pub invariant-loop-n : goal.invariant-loop-n
invariant-loop-n l =
    (length l.scratch ≡ length l.initial.scratch) × (length l.seen ≡ length l.initial.seen) × (l.count ≤ l.at.at.entry)
    × Reached l.table l.parse l.initial.scratch l.scratch l.initial.at l.at (Tally l.table l.seen l.count l.twice)

abbrev pub decreases-loop-n : goal.decreases-loop-n
decreases-loop-n l = weight l.table l.parse l.at
