use Rattle.reach.specs.Work.{Collecting}
use Rattle.reach.proofs.work.collect.Given as goal

abbrev pub invariant-loop-p : goal.invariant-loop-p
invariant-loop-p l = Collecting l.size l.low l.marks l.initial.work l.work l.i l.p
