use Rattle.bits.specs.Bits.{lacking}
use Rattle.ends.specs.Table.{Settled}
use Rattle.ends.proofs.close.Given as goal

abbrev pub invariant-loop-s : goal.invariant-loop-s
invariant-loop-s l = Settled l.code l.firsts l.marks l.s.size l.s.n l.s.m l.initial.main l.main

abbrev pub decreases-loop-s : goal.decreases-loop-s
decreases-loop-s l = lacking l.main
