use Rattle.productive.proofs.Steps.{begin-end}
use Rattle.productive.proofs.begin_at.Goals as goal

pub returns : goal.returns
returns c =
    begin-end c.requires.inside c.if-code-p-ne-AT_END.false c.mark.ensures c.raise.ensures
