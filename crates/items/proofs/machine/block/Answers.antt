use native.Mathlib.Omega.{arith}
use mathlib.Core.Path.{◌≡◌}
use Prim.Native.Nat.{◌-◌}
use Rattle.items.proofs.Windows.{copy-next, copy_done}
use Rattle.items.proofs.machine.block.Goals as goal

pub loop-k-preserved : goal.loop-k-preserved
loop-k-preserved c =
    copy-next c.loop-k.invariant c.requires.size
    (omega (arith, c.requires.fits, c.requires.deep, c.loop-k-test.true)) (omega (arith, c.requires.high, c.loop-k-test.true))
    (omega (arith, c.requires.fits, c.requires.deep, c.loop-k-test.true)) (omega (arith, c.requires.high, c.loop-k-test.true))
    c.copy.ensures

pub returns : goal.returns
returns c =
    let all : c.loop-k.k ≡ c.args.depth - c.args.j = omega (arith, c.loop-k-test.false, c.loop-k.auto.k-end) in
    copy_done (rw all at c.loop-k.invariant) c.requires.size
    (omega (arith, c.requires.fits, c.requires.deep)) (omega (arith, c.requires.high)) (omega (arith, c.requires.deep)) c.item.ensures
