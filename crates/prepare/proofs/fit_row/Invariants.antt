use mathlib.Core.Path.{◌≡◌}
use lib.ListN.{length}
use Rattle.prepare.proofs.Rows.{Rowing}
use Rattle.prepare.proofs.fit_row.Given as goal

abbrev pub invariant-loop-i : goal.invariant-loop-i
invariant-loop-i l = Rowing l.table l.text l.initial.fits l.fits l.at l.base l.i × (l.n ≡ length l.text)
