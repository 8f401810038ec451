use native.Mathlib.Omega.{arith}
use mathlib.Core.Path.{refl}
use Rattle.fault.proofs.Keys.{keying-start, keying-tells, keying-next, keying-end}
use Rattle.fault.proofs.put_keys.Goals as goal

pub loop-p-init : goal.loop-p-init
loop-p-init c = keying-start c.requires.1 c.requires.2

pub finishes-alive-requires : goal.finishes-alive-requires
finishes-alive-requires c =
    (c.requires.0, omega (arith, c.loop-p.invariant.low, c.loop-p-test.true), keying-tells c.requires.0.shape c.loop-p.invariant c.loop-p-test.true)

pub put_key-requires : goal.put_key-requires
put_key-requires c = (
  omega (arith, c.loop-p.invariant.low, c.loop-p-test.true, c.requires.0.shape.room),
  omega (arith, c.loop-p.invariant.low, c.loop-p-test.true, c.loop-p.invariant.long, c.requires.1),
  omega (arith, c.loop-p.invariant.low, c.loop-p-test.true, c.requires.0.shape.small),
)

pub loop-p-smaller : goal.loop-p-smaller
loop-p-smaller c = omega (arith, c.loop-p-test.true)

pub loop-p-preserved : goal.loop-p-preserved
loop-p-preserved c =
    keying-next c.loop-p.invariant c.loop-p-test.true refl c.finishes-alive.ensures c.put_key.ensures

pub shape_of-keys : goal.shape_of-keys
shape_of-keys c = c.loop-p.invariant.long

pub returns : goal.returns
returns c = keying-end c.loop-p.invariant (λ z. omega (arith, c.loop-p-test.false))
