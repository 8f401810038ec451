use Rattle.chart.proofs.Users.{Listed}
use Rattle.chart.proofs.list_uses.Given as goal

abbrev pub invariant-loop-p : goal.invariant-loop-p
invariant-loop-p l = Listed l.code l.size l.initial.uses l.p l.uses
