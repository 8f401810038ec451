use Prim.Native.Nat.{◌+◌, ◌*◌, ◌-◌}
use Rattle.heights.specs.Filling.{total}
use Rattle.stands.proofs.Laws.{Closing}
use Rattle.stands.proofs.close.Given as goal

abbrev pub invariant-loop-p : goal.invariant-loop-p
invariant-loop-p l = Closing l.code l.firsts l.marks l.notes l.main l.initial.flags l.flags l.size l.n.0 l.i.0 l.p

abbrev pub decreases-loop-p : goal.decreases-loop-p
decreases-loop-p l = 513 * total l.flags + (l.size - l.p)
