use Rattle.state.proofs.Cells.{keeping_start, keeping-next, keeping-end}
use native.Mathlib.Omega.{arith}
use Rattle.state.proofs.keep.Goals as goal

pub loop-i-init : goal.loop-i-init
loop-i-init c = keeping_start _ _ _

pub overflow_add-state : goal.overflow_add-state
overflow_add-state c =
    omega (arith, c.loop-i-test.true, c.requires.0, c.requires.1)

pub offset_bounds-state-at : goal.offset_bounds-state-at
offset_bounds-state-at c =
    omega (arith, c.loop-i-test.true, c.requires.0, c.requires.1)

pub bounds-state-at : goal.bounds-state-at
bounds-state-at c =
    omega (arith, c.loop-i-test.true, c.requires.0, c.loop-i.invariant.long)

pub loop-i-smaller : goal.loop-i-smaller
loop-i-smaller c =
    omega (arith, c.loop-i-test.true)

pub loop-i-preserved : goal.loop-i-preserved
loop-i-preserved c =
    keeping-next _ _ _ _ _ _ c.loop-i.invariant c.loop-i-test.true c.requires.0 c.wide_byte.ensures

pub shape_of-state : goal.shape_of-state
shape_of-state c =
    c.loop-i.invariant.long

pub returns : goal.returns
returns c =
    keeping-end _ _ _ _ _ (omega (arith, c.loop-i-test.false)) c.loop-i.invariant
