use mathlib.Core.Path.{◌∙◌}
use Rattle.left_pass.proofs.Steps.{end-home, end-waking, end-stepped, end-done}
use Rattle.left_pass.proofs.at_end.Goals as goal

pub wake-requires : goal.wake-requires
wake-requires c = rw (c.wide-e.ensures ∙ end-home c.requires
    c.if-code-p-ne-AT_END.false) (end-waking c.requires c.if-code-p-ne-AT_END.false)

pub returns : goal.returns
returns c =
    let w = rw (c.wide-e.ensures ∙ end-home
    c.requires
    c.if-code-p-ne-AT_END.false) at
    c.wake.ensures in (
      end-stepped c.requires
          c.if-code-p-ne-AT_END.false w c.raise.ensures,
      end-done
          c.requires
          c.if-code-p-ne-AT_END.false w c.raise.ensures,
    )
