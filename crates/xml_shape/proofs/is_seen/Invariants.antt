use Rattle.xml_shape.proofs.Laws.{Searched}
use Rattle.xml_shape.proofs.is_seen.Given as goal

abbrev pub invariant-loop-i : goal.invariant-loop-i
invariant-loop-i l = Searched l.table l.seen l.count l.token l.i
