use mathlib.Core.Path.{◌≡◌}
use lib.ListN.{length}
use Rattle.cursor.specs.Ahead.{SomeAhead}
use Rattle.cursor.specs.Events.{weight}
use Rattle.cursor.proofs.Turns.{Came}
use Rattle.cursor.proofs.pass.Given as goal

abbrev pub invariant-loop-p : goal.invariant-loop-p
invariant-loop-p l = (length l.scratch ≡ length l.initial.scratch) × SomeAhead l.table l.parse l.scratch l.c × Came l.table l.parse l.initial.scratch l.scratch l.initial.c l.c

abbrev pub decreases-loop-p : goal.decreases-loop-p
decreases-loop-p l = weight l.table l.parse l.c
