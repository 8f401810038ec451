use mathlib.Core.Path.{refl}
use native.Mathlib.Omega.{arith}
use Rattle.moves.proofs.Cells.{column-on, cell-inside}
use Rattle.ends.proofs.Cells.{finish-start, finish-step, finish-end}
use borrow.Author.Tests.{eqb-true, eqb-false, not-true, not-false}
use Rattle.ends.proofs.finish.Goals as goal

pub loop-w-init : goal.loop-w-init
loop-w-init c = (omega arith, finish-start (omega arith))

pub column-requires : goal.column-requires
column-requires c = (c.requires.0.short, (omega (arith, c.loop-w-test.true)))

pub cell-x-requires : goal.cell-x-requires
cell-x-requires c =
    let z = column-on _ _ _ (omega (arith, c.loop-w-test.true)) c.requires.1 c.loop-w.invariant.0 in
    (c.requires.0.short, c.requires.0.small, omega (arith, c.column.ensures, z.0), omega (arith, c.column.ensures, z.1))

pub offset_bounds-main-x : goal.offset_bounds-main-x
offset_bounds-main-x c =
    let z = cell-inside c.requires.0 (omega (arith, c.loop-w-test.true)) c.requires.1 c.loop-w.invariant.0 (rw c.column.ensures at c.cell-x.ensures) in omega
    (arith, z, c.loop-w.invariant.1.long)

pub bounds-main-x : goal.bounds-main-x
bounds-main-x c =
    let z = cell-inside c.requires.0 (omega (arith, c.loop-w-test.true)) c.requires.1 c.loop-w.invariant.0
    (rw c.column.ensures at c.cell-x.ensures) in omega (arith, z, c.loop-w.invariant.1.long)

pub offset_bounds-main-x-in-loop-w : goal.offset_bounds-main-x-in-loop-w
offset_bounds-main-x-in-loop-w c =
    let z = cell-inside c.requires.0 (omega (arith, c.loop-w-test.true)) c.requires.1 c.loop-w.invariant.0 (rw c.column.ensures at c.cell-x.ensures) in omega
    (arith, z, c.loop-w.invariant.1.long)

pub bounds-main-x-in-loop-w : goal.bounds-main-x-in-loop-w
bounds-main-x-in-loop-w c =
    let z = cell-inside c.requires.0 (omega (arith, c.loop-w-test.true)) c.requires.1 c.loop-w.invariant.0 (rw c.column.ensures at c.cell-x.ensures) in omega
    (arith, z, c.loop-w.invariant.1.long)

pub loop-w-preserved : goal.loop-w-preserved
loop-w-preserved c =
    let place = rw c.column.ensures at c.cell-x.ensures in
    let inside = cell-inside c.requires.0 (omega (arith, c.loop-w-test.true)) c.requires.1 c.loop-w.invariant.0 place in (
      omega (arith, c.loop-w.invariant.0),
      finish-step c.requires.1 (omega (arith, c.loop-w-test.true)) c.loop-w.invariant.0 place (omega (arith, inside, c.loop-w.invariant.1.long)) c.loop-w.invariant.1
          c.join-new.ensures refl (λ z. eqb-false _ _ (not-true _ z)) (λ z. eqb-true _ _ (not-false _ z)),
    )

pub shape_of-main : goal.shape_of-main
shape_of-main c = c.loop-w.invariant.1.long

pub returns : goal.returns
returns c = finish-end (omega (arith, c.loop-w-test.false)) c.loop-w.invariant.1
