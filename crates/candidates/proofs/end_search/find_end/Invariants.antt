use Prim.Native.Nat.{◌+◌, ◌-◌}
use Rattle.candidates.specs.Candidates.{LowEnd}
use Rattle.candidates.proofs.Searches.{Unmet}
use Rattle.candidates.proofs.end_search.find_end.Given as goal

abbrev pub invariant-loop-s : goal.invariant-loop-s
invariant-loop-s l = Unmet (LowEnd l.code l.marks l.notes l.s.size l.s.n.0 l.main l.p l.s.i.0 l.s.j.0 l.k) l.s.i.0 l.m.0

abbrev pub decreases-loop-s : goal.decreases-loop-s
decreases-loop-s l = l.s.j.0 + 1 - l.m.0
