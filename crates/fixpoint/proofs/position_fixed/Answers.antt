use Rattle.fixpoint.proofs.Tests.{end_by}
use Rattle.fixpoint.proofs.position_fixed.Goals as goal

pub returns-then-code-p-eq-AT_END : goal.returns-then-code-p-eq-AT_END
returns-then-code-p-eq-AT_END c =
    end_by _ _ _ _ _ c.requires.0.shape _ _ _ _ c.args.heights.now c.requires.1.inside c.if-code-p-eq-AT_END.true c.requires.3 c.end_fixed.ensures
