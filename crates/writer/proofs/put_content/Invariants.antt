use mathlib.Core.Path.{◌≡◌}
use lib.ListN.{length}
use Rattle.cursor.specs.Events.{weight}
use Rattle.cursor.proofs.Folds.{Reached}
use Rattle.writer.proofs.Folds.{Owing}
use Rattle.writer.proofs.put_content.Given as goal

abbrev pub invariant-loop-n : goal.invariant-loop-n
invariant-loop-n l =
    (length l.scratch ≡ length l.initial.scratch) × (length l.out ≡ length l.initial.out) × (l.o.limit ≡ l.initial.o.limit)
    × Reached l.table l.parse l.initial.scratch l.scratch l.initial.at l.at (Owing l.record l.initial.o l.o l.initial.out l.out)

abbrev pub decreases-loop-n : goal.decreases-loop-n
decreases-loop-n l = weight l.table l.parse l.at
