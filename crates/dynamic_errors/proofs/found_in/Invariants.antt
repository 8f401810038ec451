use mathlib.Core.Path.{◌≡◌}
use lib.ListN.{length}
use Rattle.cursor.specs.Events.{weight}
use Rattle.cursor.proofs.Folds.{Reached}
use Rattle.dynamic_errors.proofs.Folds.{Search}
use Rattle.dynamic_errors.proofs.found_in.Given as goal

abbrev pub invariant-loop-n : goal.invariant-loop-n
invariant-loop-n l =
    (length l.scratch ≡ length l.initial.scratch) × Reached l.table l.parse l.initial.scratch l.scratch l.initial.at l.at (Search l.record l.faults l.extent)

abbrev pub decreases-loop-n : goal.decreases-loop-n
decreases-loop-n l = weight l.table l.parse l.at
