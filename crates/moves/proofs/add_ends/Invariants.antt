use Prim.Native.Nat.{◌/◌, ◌<◌, ◌≤◌}
use Rattle.bits.specs.Bits.{Adds}
use Rattle.moves.specs.Moves.{Masked}
use Rattle.moves.proofs.add_ends.Given as goal

abbrev pub invariant-loop-w : goal.invariant-loop-w
invariant-loop-w l = (l.v ≤ l.w) × Adds (λ x. Masked l.n l.main l.rule l.v l.on x × (x / 32 < l.w)) l.initial.next l.next
