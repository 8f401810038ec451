use native.Mathlib.Omega.{arith}
use Rattle.stands.proofs.Laws.{marks-start, marks-next, marks-end}
use Rattle.stands.proofs.mark.Goals as goal

pub loop-i-init : goal.loop-i-init
loop-i-init c =
    marks-start c.requires.2 c.requires.0 c.requires.1 c.enter.ensures

pub loop-i-preserved : goal.loop-i-preserved
loop-i-preserved c = marks-next c.loop-i.invariant (omega (arith, c.loop-i-test.true)) c.close.ensures

pub returns : goal.returns
returns c =
    marks-end c.requires.2 c.requires.0.ground c.loop-i.invariant (omega (arith, c.loop-i-test.false))
