use Prim.Native.Nat.{◌≤◌}
use Rattle.bits.specs.Bits.{Adds}
use Rattle.moves.proofs.Cells.{LandedTo}
use Rattle.moves.proofs.shift_word.Given as goal

abbrev pub invariant-loop-b : goal.invariant-loop-b
invariant-loop-b l = (l.b ≤ 32) × Adds (LandedTo l.marks l.p l.width l.n l.v l.word l.b) l.initial.next l.next
