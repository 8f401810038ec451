use mathlib.Core.Path.{◌≡◌}
use lib.ListN.{length}
use Rattle.cursor.specs.Events.{weight}
use Rattle.cursor.proofs.Folds.{Reached}
use Rattle.xml_shape.proofs.Folds.{Sight}
use Rattle.xml_shape.proofs.not_one.Given as goal

abbrev pub invariant-loop-n : goal.invariant-loop-n
invariant-loop-n l = (length l.scratch ≡ length l.initial.scratch) × Reached l.table l.parse l.initial.scratch l.scratch l.initial.at l.at (Sight l.shape)

abbrev pub decreases-loop-n : goal.decreases-loop-n
decreases-loop-n l = weight l.table l.parse l.at
