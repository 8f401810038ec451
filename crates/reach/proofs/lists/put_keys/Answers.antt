use native.Mathlib.Omega.{arith}
use Rattle.reach.proofs.Keys.{keys-next, keys-end}
use Rattle.reach.proofs.lists.put_keys.Goals as goal

pub loop-p-preserved : goal.loop-p-preserved
loop-p-preserved c = keys-next c.requires.0.shape
    c.loop-p.invariant c.loop-p-test.true c.key.ensures
    c.put_key.ensures

pub returns : goal.returns
returns c = keys-end c.requires.1 c.loop-p.invariant (omega (arith, c.loop-p-test.false))
