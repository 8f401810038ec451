use mathlib.Core.Path.{refl, ◌∙◌}
use native.Mathlib.Omega.{arith}
use Rattle.sweeps.proofs.Passes.{ends-start, ends_next, begun, swept-by}
use Rattle.sweeps.proofs.sweep.Goals as goal

pub loop-j-init : goal.loop-j-init
loop-j-init c =
    let a = c.args in
    (omega arith, refl, ends-start a.code.now a.fits.now a.size a.n a.height)

pub loop-j-preserved : goal.loop-j-preserved
loop-j-preserved c =
    let a = c.args in (
      omega (arith, c.loop-j-test.true),
      c.column-added.auto.main ∙ c.loop-j.invariant.1,
      λ run. (ends_next a.code.now a.fits.now a.size a.n a.height c.loop-j.j
          (omega (arith, c.loop-j-test.true))
          (c.loop-j.invariant.2 run) (c.column-added.ensures (c.loop-j.invariant.2 run).running)),
    )

pub returns : goal.returns
returns c =
    let a = c.args in
    λ l up. swept-by a.code.now a.fits.now a.size a.n a.height c.loop-j.j (omega (arith, c.loop-j.invariant.0, c.loop-j-test.false))
    (c.loop-j.invariant.2 (begun a.code.now a.fits.now a.size a.n a.height l up))
