use Rattle.state.proofs.Cells.{Keeping}
use Rattle.state.proofs.keep.Given as goal

abbrev pub invariant-loop-i : goal.invariant-loop-i
invariant-loop-i l = Keeping l.initial.state l.bytes l.at l.state l.i
