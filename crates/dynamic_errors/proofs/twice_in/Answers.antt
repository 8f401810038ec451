use Rattle.dynamic_errors.proofs.Roots.{twice-bare}
use Rattle.dynamic_errors.proofs.twice_in.Goals as goal

pub returns-else-attributed : goal.returns-else-attributed
returns-else-attributed c = twice-bare c.args.deleted c.requires.attributed c.if-attributed.false
