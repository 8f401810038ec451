use Prim.Native.Nat.{◌-◌}
use Rattle.candidates.proofs.AlongRules.{Trying}
use Rattle.candidates.proofs.alternatives.find_alternative.Given as goal

abbrev pub invariant-loop-s : goal.invariant-loop-s
invariant-loop-s l = Trying l.code l.s.size l.first l.marks l.notes l.s.n.0 l.main l.s.i.0 l.s.j.0 l.k l.q l.a

abbrev pub decreases-loop-s : goal.decreases-loop-s
decreases-loop-s l = 512 - l.a
