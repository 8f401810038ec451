use native.Mathlib.Omega.{arith}
use Rattle.ends.proofs.wake.Goals as goal

pub overflow_mul-rule : goal.overflow_mul-rule
overflow_mul-rule c = omega (arith, c.requires.3)

pub offset_bounds-notes-rule : goal.offset_bounds-notes-rule
offset_bounds-notes-rule c = omega (arith, c.requires.3)

pub bounds-notes-rule : goal.bounds-notes-rule
bounds-notes-rule c = omega (arith, c.requires.0, c.requires.3)

pub loop-x-init : goal.loop-x-init
loop-x-init c = c.capped-x.ensures

pub bounds-notes-x : goal.bounds-notes-x
bounds-notes-x c =
    omega (arith, c.requires.0, c.loop-x.invariant, c.loop-x-test.true)

pub push_begun-requires : goal.push_begun-requires
push_begun-requires c =
    (c.requires.1, c.requires.2)

pub bounds-notes-x-in-loop-x : goal.bounds-notes-x-in-loop-x
bounds-notes-x-in-loop-x c =
    omega (arith, c.requires.0, c.loop-x.invariant, c.loop-x-test.true)

pub loop-x-smaller : goal.loop-x-smaller
loop-x-smaller c = omega (arith, c.capped-x-in-loop-x.ensures, c.loop-x-test.true)

pub loop-x-preserved : goal.loop-x-preserved
loop-x-preserved c = omega (arith, c.capped-x-in-loop-x.ensures, c.loop-x.invariant)
