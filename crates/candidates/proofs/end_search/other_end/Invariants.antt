use Prim.Native.Nat.{◌+◌, ◌-◌}
use Rattle.candidates.specs.Candidates.{AnotherEnd}
use Rattle.candidates.proofs.Searches.{Unmet}
use Rattle.candidates.proofs.end_search.other_end.Given as goal

abbrev pub invariant-loop-l : goal.invariant-loop-l
invariant-loop-l it = Unmet (AnotherEnd it.code it.marks it.notes it.s.size it.s.n.0 it.main it.p it.s.i.0 it.s.j.0 it.m.0) it.s.i.0 it.l.0

abbrev pub decreases-loop-l : goal.decreases-loop-l
decreases-loop-l it = it.s.j.0 + 1 - it.l.0
