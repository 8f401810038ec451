use Rattle.productive.proofs.Scan.{Scanned}
use Rattle.productive.proofs.any_missing.Given as goal

abbrev pub invariant-loop-dot : goal.invariant-loop-dot
invariant-loop-dot l = Scanned l.code l.missing l.dot
