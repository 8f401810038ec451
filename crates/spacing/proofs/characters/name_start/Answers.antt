use mathlib.Core.Path.{sym, ◌∙◌}
use borrow.Author.Tests.{eq-eqb, ne_eqb, lt-leb}
use Rattle.syntax.specs.Syntax.{namestart}
use Rattle.spacing.proofs.Tests.{is-l}
use Rattle.spacing.proofs.Ascii.{letter-starts, not_start}
use Rattle.spacing.proofs.characters.name_start.Goals.{then-letter-via-then-letter, then-letter-via-else-letter+then-c-eq-UNDERSCORE}
use Rattle.spacing.proofs.characters.name_start.Goals as goal

pub returns-then-letter : goal.returns-then-letter
unfolding namestart
returns-then-letter c = elim c.then-letter.branch [
  | then-letter-via-then-letter w ↦ sym (letter-starts _ (sym c.letter.ensures ∙ w.if-letter.true))
  | then-letter-via-else-letter+then-c-eq-UNDERSCORE w ↦ rw (eq-eqb _ _ w.if-c-eq-UNDERSCORE.true)
]

pub returns-then-c-ge-PAST_ASCII : goal.returns-then-c-ge-PAST_ASCII
unfolding namestart
returns-then-c-ge-PAST_ASCII c = rw (ne_eqb _ _ c.if-c-eq-UNDERSCORE.false, is-l _ c.in_class.ensures)

pub returns-else-c-ge-PAST_ASCII : goal.returns-else-c-ge-PAST_ASCII
returns-else-c-ge-PAST_ASCII c =
    lt-leb _ _ c.if-c-ge-PAST_ASCII.false
    ∙ sym (not_start _ c.if-c-ge-PAST_ASCII.false (sym c.letter.ensures ∙ c.if-letter.false) (ne_eqb _ _ c.if-c-eq-UNDERSCORE.false))
