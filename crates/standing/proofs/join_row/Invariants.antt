use Rattle.standing.proofs.Rows.{Merging}
use Rattle.standing.proofs.join_row.Given as goal

abbrev pub invariant-loop-v : goal.invariant-loop-v
invariant-loop-v l = Merging l.initial.sets l.sets l.row l.cur l.v l.grew
