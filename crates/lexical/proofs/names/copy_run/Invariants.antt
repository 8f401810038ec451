use Rattle.syntax.specs.Lexical.{run}
use Rattle.lexical.proofs.Copies.{Copying}
use Rattle.lexical.proofs.names.copy_run.Given as goal

abbrev pub invariant-loop-i : goal.invariant-loop-i
invariant-loop-i l = Copying run l.text l.fn.p.0 l.initial.out l.initial.to.0 l.out l.i l.to.0
