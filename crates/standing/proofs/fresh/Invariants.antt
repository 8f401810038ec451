use Prim.Native.Nat.{ℕ}
use Rattle.bits.specs.Bits.{Has}
use Rattle.standing.specs.Sets.{Joined}
use Rattle.standing.proofs.fresh.Given as goal

abbrev pub invariant-loop-v : goal.invariant-loop-v
invariant-loop-v l = Joined l.initial.sets l.sets l.row l.initial.cur × ((x : ℕ) → Has l.cur x → Has l.initial.cur x)
