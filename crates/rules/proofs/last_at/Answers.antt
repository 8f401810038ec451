use borrow.Author.Tests.{eq-eqb, ne_eqb}
use Rattle.rules.specs.Ready.{last_of}
use Rattle.rules.proofs.last_at.Goals as goal

pub returns-then-table-p-eq-RULE_END : goal.returns-then-table-p-eq-RULE_END
unfolding last_of
returns-then-table-p-eq-RULE_END c = simp (eq-eqb _ _ c.if-table-p-eq-RULE_END.true)

pub returns : goal.returns
unfolding last_of
returns c = simp (ne_eqb _ _ c.if-table-p-eq-RULE_END.false)
