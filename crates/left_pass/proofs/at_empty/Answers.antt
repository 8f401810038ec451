use Rattle.left_pass.proofs.Steps.{empty-after, empty-kept, empty-stepped, empty-done}
use Rattle.left_pass.proofs.at_empty.Goals as goal

pub lift-requires : goal.lift-requires
lift-requires c = (
  empty-kept c.requires
      c.if-code-p-ne-AT_TERMINAL.false c.if-code-p-ne0.false
      c.raise.ensures,
  empty-after c.requires c.if-code-p-ne-AT_TERMINAL.false c.if-code-p-ne0.false,
)

pub returns : goal.returns
returns c = (
  empty-stepped c.requires c.if-code-p-ne-AT_TERMINAL.false
      c.if-code-p-ne0.false c.raise.ensures c.lift.ensures,
  empty-done c.requires c.if-code-p-ne-AT_TERMINAL.false c.if-code-p-ne0.false
      c.raise.ensures c.lift.ensures,
)
