use Rattle.calls.proofs.Checks.{refuses, accepts}
use Rattle.calls.proofs.ixml_check.Goals as goal

pub returns-in-Err : goal.returns-in-Err
returns-in-Err c = refuses _ c.in-Err.why _ c.in-Err.ensures (rw c.from.ensures at c.refuse.ensures)

pub returns-in-Ok : goal.returns-in-Ok
returns-in-Ok c = accepts _ _ c.in-Ok.rules _ c.in-Ok.ensures c.answered.ensures
