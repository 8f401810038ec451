use native.Mathlib.Omega.{arith}
use Rattle.items.proofs.Links.{linking-next}
use Rattle.items.proofs.link.link.Goals as goal

pub loop-p-preserved : goal.loop-p-preserved
loop-p-preserved c =
    (linking-next c.loop-p.invariant.0 c.resolve.new.table c.resolve.auto.table c.resolve.ensures, omega (arith, c.loop-p-test.true))
