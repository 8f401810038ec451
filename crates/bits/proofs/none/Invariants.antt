use Prim.Native.Nat.{ℕ, ◌/◌, ◌%◌, ◌<◌}
use Rattle.bits.specs.Bits.{Lit, Has}
use Rattle.bits.proofs.none.Given as goal

abbrev pub invariant-loop-v : goal.invariant-loop-v
invariant-loop-v l = (x : ℕ) → x / 32 < l.v → Has l.set x → Lit l.all (x % 32)
