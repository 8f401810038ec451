use native.Mathlib.Omega.{arith}
use Rattle.moves.proofs.Cells.{column-on, cell-inside}
use Rattle.ends.proofs.Cells.{clear-start, clear_step, clear-end}
use Rattle.ends.proofs.clear_row.Goals as goal

pub loop-w-init : goal.loop-w-init
loop-w-init c = (omega arith, clear-start)

pub column-requires : goal.column-requires
column-requires c = (c.requires.0.short, (omega (arith, c.loop-w-test.true)))

pub cell-x-requires : goal.cell-x-requires
cell-x-requires c =
    let z = column-on _ _ _ (omega (arith, c.loop-w-test.true)) c.requires.1 c.loop-w.invariant.0 in
    (c.requires.0.short, c.requires.0.small, omega (arith, c.column.ensures, z.0), omega (arith, c.column.ensures, z.1))

pub offset_bounds-main-x : goal.offset_bounds-main-x
offset_bounds-main-x c =
    let z = cell-inside c.requires.0 (omega (arith, c.loop-w-test.true)) c.requires.1 c.loop-w.invariant.0 (rw c.column.ensures at c.cell-x.ensures) in omega
    (arith, z, c.loop-w.invariant.1.long)

pub bounds-main-x : goal.bounds-main-x
bounds-main-x c =
    let z = cell-inside c.requires.0 (omega (arith, c.loop-w-test.true)) c.requires.1 c.loop-w.invariant.0 (rw c.column.ensures at c.cell-x.ensures) in omega
    (arith, z, c.loop-w.invariant.1.long)

pub loop-w-preserved : goal.loop-w-preserved
loop-w-preserved c = (
  omega (arith, c.loop-w.invariant.0),
  clear_step c.requires.1 (omega (arith, c.loop-w-test.true)) c.loop-w.invariant.0
      (rw c.column.ensures at c.cell-x.ensures) c.loop-w.invariant.1,
)

pub shape_of-main : goal.shape_of-main
shape_of-main c = c.loop-w.invariant.1.long

pub returns : goal.returns
returns c = clear-end (omega (arith, c.loop-w-test.false)) c.loop-w.invariant.1
