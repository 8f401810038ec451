use native.Mathlib.Omega.{arith}
use Rattle.confirm.proofs.Reaches.{best-start, rows_next, rows_end}
use Rattle.confirm.proofs.sure.Goals as goal

pub loop-p-init : goal.loop-p-init
loop-p-init c = best-start (λ q i z. omega (arith, z))

pub far_row-far-requires : goal.far_row-far-requires
far_row-far-requires c = (c.requires, c.loop-p-test.true)

pub loop-p-smaller : goal.loop-p-smaller
loop-p-smaller c = omega (arith, c.loop-p-test.true)

pub loop-p-preserved : goal.loop-p-preserved
loop-p-preserved c = rows_next c.loop-p.invariant c.far_row-far.ensures

pub returns : goal.returns
returns c = rows_end c.loop-p-test.false c.loop-p.invariant
