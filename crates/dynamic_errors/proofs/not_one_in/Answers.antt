use Rattle.dynamic_errors.proofs.Roots.{not-one-deleted}
use Rattle.dynamic_errors.proofs.not_one_in.Goals as goal

pub returns-then-deleted : goal.returns-then-deleted
returns-then-deleted c = not-one-deleted c.if-deleted.true c.not_one.ensures
