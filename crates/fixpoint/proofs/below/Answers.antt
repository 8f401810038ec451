use Rattle.fixpoint.proofs.Tests.{below_by}
use native.Mathlib.Omega.{arith}
use Rattle.fixpoint.proofs.below.Goals as goal

pub returns : goal.returns
returns c =
    below_by _ _ _ _ _ c.requires.0.shape _ _ _ _ _ _ c.requires.2 (omega (arith, c.if-bound-eq0.false)) (omega (arith, c.if-bound-eq0.false)) c.derived.ensures
