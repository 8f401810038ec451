use Rattle.static_errors.proofs.Names as law
use Rattle.static_errors.proofs.repeated.Given as goal

abbrev pub invariant-loop-i : goal.invariant-loop-i
invariant-loop-i l = law.RepeatsAt l.table l.index l.n l.i
