use mathlib.Core.Path.{refl, ◌∙◌}
use native.Mathlib.Omega.{arith}
use Rattle.sweeps.proofs.Passes.{dots-start, dots-next}
use Rattle.sweeps.proofs.stretch.Goals as goal

pub loop-p-init : goal.loop-p-init
loop-p-init c =
    let a = c.args in
    (omega arith, refl, dots-start a.code.now a.fits.now a.layer.size a.layer.n a.layer.height a.i a.j)

pub loop-p-preserved : goal.loop-p-preserved
loop-p-preserved c =
    let a = c.args in (
      omega (arith, c.loop-p.invariant.0),
      c.visit-added.auto.main ∙ c.loop-p.invariant.1,
      λ run. (dots-next a.code.now a.fits.now a.layer.size a.layer.n a.layer.height a.i a.j c.loop-p.p c.loop-p-test.true
          (c.loop-p.invariant.2 run) (c.visit-added.ensures (c.loop-p.invariant.2 run).running)),
    )
