use Rattle.bits.specs.Bits.{Adds}
use Rattle.moves.proofs.Cells.{PassedTo}
use Rattle.moves.proofs.pass.Given as goal

abbrev pub invariant-loop-v : goal.invariant-loop-v
invariant-loop-v l = Adds (PassedTo l.n l.main l.rule l.cur l.v) l.initial.next l.next
