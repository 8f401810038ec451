use mathlib.Core.Path.{◌≡◌}
use lib.ListN.{length}
use Rattle.cursor.specs.Events.{weight}
use Rattle.cursor.proofs.Folds.{Reached}
use Rattle.dynamic_errors.proofs.Folds.{Hunt}
use Rattle.dynamic_errors.proofs.twice_within.Given as goal

abbrev pub invariant-loop-n : goal.invariant-loop-n
invariant-loop-n l =
    (length l.scratch ≡ length l.initial.scratch) × (length l.seen ≡ length l.initial.seen) × Reached l.table l.parse l.initial.scratch l.scratch l.initial.at l.at (Hunt l.found)

abbrev pub decreases-loop-n : goal.decreases-loop-n
decreases-loop-n l = weight l.table l.parse l.at
