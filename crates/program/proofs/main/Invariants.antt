use Rattle.std.proofs.Common.{◌-◌}
use Rattle.program.proofs.main.Given as goal

abbrev pub decreases-loop-at : goal.decreases-loop-at
decreases-loop-at l = l.n - l.at
