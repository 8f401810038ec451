use mathlib.Core.Path.{sym, ap, ◌∙◌}
use borrow.Author.Rules.{rules}
use Rattle.syntax.specs.Syntax.{whitespace}
use Rattle.spacing.proofs.Tests.{is-zs}
use Rattle.spacing.proofs.Ascii.{not_white, space-white}
use Rattle.spacing.proofs.characters.whitespace.Goals as goal

pub returns-then-between : goal.returns-then-between
returns-then-between c = sym (not_white _ (sym c.between.ensures ∙ c.if-between.true))

pub returns-then-c-eq-SPACE : goal.returns-then-c-eq-SPACE
returns-then-c-eq-SPACE c = sym (ap whitespace c.if-c-eq-SPACE.true ∙ space-white)

pub returns-then-c-eq-LINE_FEED : goal.returns-then-c-eq-LINE_FEED
unfolding whitespace
returns-then-c-eq-LINE_FEED c = rw (is-zs _ c.in_class.ensures) (search rules)

pub returns-else-c-eq-LINE_FEED : goal.returns-else-c-eq-LINE_FEED
unfolding whitespace
returns-else-c-eq-LINE_FEED c = rw (is-zs _ c.in_class.ensures) (search rules)
