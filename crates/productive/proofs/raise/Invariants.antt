use Prim.Native.Nat.{◌<◌}
use Rattle.productive.specs.State.{Moved, Always}
use Rattle.productive.proofs.raise.Given as goal

abbrev pub invariant-loop-marks : goal.invariant-loop-marks
invariant-loop-marks l = Moved l.code l.size l.initial.marks l.initial.missing l.initial.queue l.marks l.missing l.queue l.q Always × (l.q < l.size)

abbrev pub decreases-loop-marks : goal.decreases-loop-marks
decreases-loop-marks l = l.q
