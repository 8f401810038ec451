use borrow.Author.Tests.{eq-eqb, ne_eqb}
use Rattle.exported.proofs.version_of.Goals as goal

pub returns-then-number-eq-NO_READING : goal.returns-then-number-eq-NO_READING
returns-then-number-eq-NO_READING c = rw (eq-eqb _ _ c.if-number-eq-NO_READING.true)

pub returns : goal.returns
returns c = rw (ne_eqb _ _ c.if-number-eq-NO_READING.false)
