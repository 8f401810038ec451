use Rattle.stands.proofs.Laws.{step-follow}
use Rattle.stands.proofs.step.Goals as goal

pub returns : goal.returns
returns c =
    step-follow c.requires c.if-flags-x-ne-WAITING.false c.follow.ensures
