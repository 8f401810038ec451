use mathlib.Core.Path.{◌≡◌}
use lib.ListN.{length}
use Rattle.encode.specs.Out.{state}
use Rattle.cursor.specs.Events.{weight}
use Rattle.cursor.proofs.Folds.{Reached}
use Rattle.writer.proofs.Folds.{Quoting}
use Rattle.writer.proofs.put_attributes.Given as goal

abbrev pub invariant-loop-n : goal.invariant-loop-n
invariant-loop-n l =
    (length l.scratch ≡ length l.initial.scratch) × (length l.out ≡ length l.initial.out)
    × Reached l.table l.parse l.initial.scratch l.scratch l.initial.at l.at (Quoting l.record l.limit.0 (state l.initial.pos.0 l.initial.out) (state l.pos.0 l.out) l.quoted)

abbrev pub decreases-loop-n : goal.decreases-loop-n
decreases-loop-n l = weight l.table l.parse l.at
