use Rattle.bits.specs.Bits.{lacking}
use Rattle.standing.proofs.Closing.{Rounds}
use Rattle.standing.proofs.close.Given as goal

abbrev pub invariant-loop-t : goal.invariant-loop-t
invariant-loop-t l = Rounds l.code l.firsts l.marks l.t.size l.t.n l.main l.initial.sets l.sets

abbrev pub decreases-loop-t : goal.decreases-loop-t
decreases-loop-t l = lacking l.sets
