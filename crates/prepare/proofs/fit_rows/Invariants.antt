use Rattle.prepare.proofs.Rows.{RowsBelow}
use Rattle.prepare.proofs.fit_rows.Given as goal

abbrev pub invariant-loop-p : goal.invariant-loop-p
invariant-loop-p l = RowsBelow l.table l.size l.text l.initial.fits l.fits l.p
