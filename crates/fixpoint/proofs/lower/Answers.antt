use Rattle.fixpoint.proofs.Tests.{owner-inside}
use native.Mathlib.Omega.{arith}
use Rattle.fixpoint.proofs.lower.Goals as goal

pub bounds-heights-owner : goal.bounds-heights-owner
bounds-heights-owner c =
    omega (arith, owner-inside c.args.p c.requires.0 c.requires.1.inside c.if-owner-eq0.false, c.requires.2)
