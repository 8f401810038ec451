use Rattle.bits.specs.Bits.{Adds}
use Rattle.moves.proofs.Cells.{ShiftedTo}
use Rattle.moves.proofs.shift.Given as goal

abbrev pub invariant-loop-v : goal.invariant-loop-v
invariant-loop-v l = Adds (ShiftedTo l.marks l.p l.width l.n l.cur l.v) l.initial.next l.next
