use mathlib.Core.Path.{refl, ◌∙◌}
use native.Mathlib.Omega.{arith}
use lib.ListN.{length}
use Rattle.heights.specs.Table.{Shape}
use Rattle.heights.proofs.Exact.{filled}
use Rattle.sweeps.proofs.Ending.{rising-start, below_none, more-cells, rising-next, settled, fewer}
use Rattle.sweeps.proofs.fill.Goals as goal

pub loop-height-init : goal.loop-height-init
loop-height-init c =
    let a = c.args in
    (refl, λ sh. rising-start a.code.now a.fits.now a.size a.n _ sh c.clear.ensures)

pub overflow_add-height : goal.overflow_add-height
overflow_add-height c =
    let a = c.args in
    let sh : Shape a.code.now a.size a.n (length c.clear.new.main) = rw c.clear.auto.main c.requires.shape in
    omega (arith, below_none a.code.now a.fits.now a.size a.n (length c.clear.new.main) sh (c.loop-height.invariant.1 sh))

pub loop-height-smaller : goal.loop-height-smaller
loop-height-smaller c =
    let a = c.args in
    let sh : Shape a.code.now a.size a.n (length c.clear.new.main) = rw c.clear.auto.main c.requires.shape in
    let w = c.loop-height.invariant.1 sh in
    let s = c.sweep.ensures (omega (arith, below_none a.code.now a.fits.now a.size a.n (length c.clear.new.main) sh w)) w.upto in
    fewer a.code.now a.fits.now a.size a.n (length c.clear.new.main) sh c.loop-height.main c.sweep.new.main
    (more-cells a.code.now a.fits.now a.size a.n (length c.clear.new.main) sh w s c.loop-height-test.true)

pub loop-height-preserved : goal.loop-height-preserved
loop-height-preserved c =
    let a = c.args in (
      c.sweep.auto.main ∙ c.loop-height.invariant.0,
      λ sh. let w = c.loop-height.invariant.1 sh in
          let s = c.sweep.ensures (omega (arith, below_none a.code.now a.fits.now a.size a.n _ sh w)) w.upto in
          rising-next a.code.now a.fits.now a.size a.n _ sh w s c.loop-height-test.true,
    )

pub returns : goal.returns
returns c =
    let a = c.args in
    let sh : Shape a.code.now a.size a.n (length c.clear.new.main) = rw c.clear.auto.main c.requires.shape in
    let w = c.loop-height.invariant.1 sh in
    let s = c.sweep.ensures (omega (arith, below_none a.code.now a.fits.now a.size a.n (length c.clear.new.main) sh w)) w.upto in
    filled a.code.now a.fits.now a.size a.n c.clear.new.main c.sweep.new.main c.clear.ensures
    (settled a.code.now a.fits.now a.size a.n (length c.clear.new.main) sh w s c.loop-height-test.false) sh.cells.room
