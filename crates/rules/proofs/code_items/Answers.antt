use Rattle.rules.proofs.Arrays.{code-next}
use Rattle.rules.proofs.code_items.Goals as goal

pub loop-p-preserved : goal.loop-p-preserved
loop-p-preserved c = code-next c.loop-p.invariant c.loop-p-test.true c.code_item.ensures
