use mathlib.Core.Path.{sym, ◌∙◌}
use borrow.Author.Tests.{eq-eqb, ne_eqb}
use Rattle.syntax.specs.Syntax.{plain}
use Rattle.spacing.proofs.Tests.{is-cc}
use Rattle.spacing.proofs.Ascii.{not-control}
use Rattle.spacing.proofs.characters.plain.Goals as goal

pub returns-then-between : goal.returns-then-between
unfolding plain
returns-then-between c = rw (ne_eqb _ _ c.if-c-q.true, not-control _ (sym c.between.ensures ∙ c.if-between.true)) c.if-between.true

pub returns-else-between : goal.returns-else-between
unfolding plain
returns-else-between c = rw (ne_eqb _ _ c.if-c-q.true, is-cc _ c.in_class.ensures)

pub returns-else-c-q : goal.returns-else-c-q
unfolding plain
returns-else-c-q c = rw (eq-eqb _ _ c.if-c-q.false)
