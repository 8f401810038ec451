use mathlib.Core.Path.{◌≡◌}
use lib.ListN.{length}
use Rattle.text.specs.Limits.{most_size}
use Rattle.reading.specs.Answer.{Finished}
use Rattle.reading.proofs.Course.{weight}
use Rattle.reading.proofs.Underway.{Underway}
use Rattle.reading.proofs.walk.Given as goal

abbrev pub invariant-loop-out : goal.invariant-loop-out
invariant-loop-out l =
    (length l.out ≡ length l.initial.out) × (length l.stack ≡ length l.initial.stack) × ((t : Finished l.code l.marks l.notes l.main l.size l.end l.top l.first) → Underway t l.out l.stack l.h)

abbrev pub decreases-loop-out : goal.decreases-loop-out
decreases-loop-out l = weight most_size l.h
