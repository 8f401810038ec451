use Rattle.static_errors.proofs.Names as law
use Rattle.static_errors.proofs.found.Given as goal

abbrev pub invariant-loop-i : goal.invariant-loop-i
invariant-loop-i l = law.FoundAt l.table l.a l.index l.from l.n l.i
