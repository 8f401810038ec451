use Rattle.tokens.proofs.Names as law
use Rattle.tokens.proofs.same_name.Given as goal

abbrev pub invariant-loop-i : goal.invariant-loop-i
invariant-loop-i l = law.SameAt l.table l.a l.b l.count l.i
