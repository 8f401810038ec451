use Rattle.stands.proofs.Laws.{is_set}
use Rattle.stands.proofs.set_out.Goals as goal

pub returns-then-flags-x-gt-WAITING : goal.returns-then-flags-x-gt-WAITING
returns-then-flags-x-gt-WAITING c = is_set _ _ c.requires c.if-flags-x-gt-WAITING.true
