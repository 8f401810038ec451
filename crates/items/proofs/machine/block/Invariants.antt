use Rattle.items.proofs.Windows.{Copying}
use Rattle.items.proofs.machine.block.Given as goal

abbrev pub invariant-loop-k : goal.invariant-loop-k
invariant-loop-k l = Copying l.initial.table l.i l.j l.table l.k
