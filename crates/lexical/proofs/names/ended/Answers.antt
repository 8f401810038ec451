use mathlib.Core.Path.{◌∙◌}
use borrow.Author.Tests.{le-leb}
use Rattle.text.proofs.Tests.{clash}
use Rattle.syntax.specs.Lexical.{ended}
use Rattle.spacing.proofs.Places.{at-char, at-end}
use Rattle.lexical.proofs.names.ended.Goals.{then-text-i, else-text-i}
use Rattle.lexical.proofs.names.ended.Goals as goal

pub returns-then-is_mark : goal.returns-then-is_mark
unfolding ended
returns-then-is_mark c = elim c.if-text-i.branch [
  | then-text-i w ↦ rw (c.if-is_mark.true, at-end _ _ w.if-text-i.true)
  | else-text-i w ↦ rw (c.if-is_mark.true, at-char _ _ w.if-text-i.false, ← w.is_mark.ensures, ← w.value-is, c.if-is_mark.true)
]

pub returns-else-is_mark : goal.returns-else-is_mark
unfolding ended
returns-else-is_mark c = elim c.if-text-i.branch [
  | then-text-i w ↦ absurd (clash c.if-is_mark.false (w.value-is ∙ le-leb _ _ w.if-text-i.true))
  | else-text-i w ↦ rw (at-char _ _ w.if-text-i.false, ← w.is_mark.ensures, ← w.value-is, c.if-is_mark.false) c.name_start.ensures
]
