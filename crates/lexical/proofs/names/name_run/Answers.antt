use mathlib.Core.Path.{sym, ◌∙◌}
use Rattle.syntax.specs.Syntax.{namestart}
use Rattle.spacing.proofs.Places.{tested}
use Rattle.lexical.proofs.names.name_run.Goals as goal

pub returns-then-not-name_start : goal.returns-then-not-name_start
returns-then-not-name_start c = tested c.peek.ensures namestart (sym c.name_start.ensures ∙ c.if-not-name_start.true)

pub returns : goal.returns
returns c =
    record {
      starts = tested c.peek.ensures namestart (sym c.name_start.ensures ∙ c.if-not-name_start.false);
      copied = c.copy_run.ensures;
    }
