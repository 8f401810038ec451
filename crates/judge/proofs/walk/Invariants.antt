use Rattle.left_parse.specs.Walk.{weight}
use Rattle.judge.proofs.Turns.{Turned}
use Rattle.judge.proofs.walk.Given as goal

abbrev pub invariant-loop-scratch : goal.invariant-loop-scratch
invariant-loop-scratch l = Turned l.table l.list l.record l.initial.scratch l.scratch l.initial.h l.h

abbrev pub decreases-loop-scratch : goal.decreases-loop-scratch
decreases-loop-scratch l = weight l.table l.list l.h
