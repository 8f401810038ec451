use mathlib.Core.Path.{refl, ◌∙◌}
use native.Mathlib.Omega.{arith}
use Rattle.sweeps.proofs.Passes.{starts-start, starts-next}
use Rattle.sweeps.proofs.column.Goals as goal

pub loop-i-init : goal.loop-i-init
loop-i-init c =
    let a = c.args in
    (omega arith, refl, starts-start a.code.now a.fits.now a.layer.size a.layer.n a.layer.height a.j)

pub loop-i-preserved : goal.loop-i-preserved
loop-i-preserved c =
    let a = c.args in (
      omega (arith, c.loop-i.invariant.0),
      c.stretch-added.auto.main ∙ c.loop-i.invariant.1,
      λ run. (starts-next a.code.now a.fits.now a.layer.size a.layer.n a.layer.height a.j c.loop-i.i
          c.loop-i-test.true c.requires.1
          (c.loop-i.invariant.2 run) (c.stretch-added.ensures (c.loop-i.invariant.2 run).running)),
    )
