use Rattle.static_errors.specs.Parts.{failing}
use Rattle.static_errors.proofs.breaks_asked.Goals as goal

pub returns-in-Some : goal.returns-in-Some
returns-in-Some c = rw (c.in-Some.is, ← c.number.ensures) c.breaks.ensures

pub returns-in-None : goal.returns-in-None
unfolding failing
returns-in-None c = rw c.in-None.is c.breaks_any.ensures
