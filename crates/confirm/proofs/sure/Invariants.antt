use Prim.Native.Nat.{◌<◌}
use Rattle.confirm.specs.Find.{Best}
use Rattle.confirm.proofs.sure.Given as goal

abbrev pub invariant-loop-p : goal.invariant-loop-p
invariant-loop-p l = Best l.table l.code l.text l.size l.sets (λ q i. q < l.p) 0 l.far
