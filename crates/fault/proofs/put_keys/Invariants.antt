use Rattle.fault.proofs.Keys.{Keying}
use Rattle.fault.proofs.put_keys.Given as goal

abbrev pub invariant-loop-p : goal.invariant-loop-p
invariant-loop-p l = Keying l.table l.code l.size l.initial.keys l.keys l.p l.alive
