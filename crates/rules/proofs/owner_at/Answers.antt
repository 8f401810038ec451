use borrow.Author.Tests.{eq-eqb, ne_eqb, lt-ltb, le-ltb}
use Rattle.rules.specs.Ready.{owner_of}
use Rattle.rules.proofs.owner_at.Goals as goal

pub returns-then-p-eq0 : goal.returns-then-p-eq0
unfolding owner_of
returns-then-p-eq0 c = simp (eq-eqb _ _ c.if-p-eq0.true)

pub returns-then-table-p-lt-ALTERNATIVE_END : goal.returns-then-table-p-lt-ALTERNATIVE_END
unfolding owner_of
returns-then-table-p-lt-ALTERNATIVE_END c = simp (ne_eqb _ _ c.if-p-eq0.false, lt-ltb _ _ c.if-table-p-lt-ALTERNATIVE_END.true)

pub returns : goal.returns
unfolding owner_of
returns c = simp (ne_eqb _ _ c.if-p-eq0.false, le-ltb _ _ c.if-table-p-lt-ALTERNATIVE_END.false)
