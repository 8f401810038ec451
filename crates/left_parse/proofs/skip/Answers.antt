use mathlib.Core.Path.{refl}
use Rattle.left_parse.proofs.Items.{wide_of}
use Rattle.left_parse.proofs.skip.Goals as goal

pub returns : goal.returns
returns c =
    let w = c.terminal_width-w in
    record { w = c.terminal_width-w.result; wide = wide_of _ c.terminal_width-w.ensures.0 c.token_at.ensures.0 c.terminal_width-w.ensures.1; spot = refl }
