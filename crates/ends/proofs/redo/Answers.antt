use native.Mathlib.Omega.{arith}
use Rattle.ends.proofs.Rounds.{redone-none}
use Rattle.ends.proofs.redo.Goals as goal

pub overflow_mul-s : goal.overflow_mul-s
overflow_mul-s c =
    omega (arith, c.requires.0.on, c.requires.0.ground.short)

pub overflow_add-s : goal.overflow_add-s
overflow_add-s c =
    omega (arith, c.requires.1, c.requires.0.ground.shape.small)

pub overflow_add-s-2 : goal.overflow_add-s-2
overflow_add-s-2 c =
    omega (arith, c.requires.1, c.requires.0.ground.shape.small, c.requires.0.on, c.requires.0.ground.short)

pub bounds-marks-s : goal.bounds-marks-s
bounds-marks-s c =
    omega (arith, c.requires.1, c.requires.0.ground.shape.small, c.requires.0.on, c.requires.0.ground.short, c.requires.0.ground.marks-long)

pub returns-then-marks-s-eq0 : goal.returns-then-marks-s-eq0
returns-then-marks-s-eq0 c =
    redone-none c.requires.0 (λ b. omega (arith, c.if-marks-s-eq0.true, b))

pub derive-requires : goal.derive-requires
derive-requires c =
    (c.requires.0, c.requires.1, omega (arith, c.if-marks-s-eq0.false))

pub shape_of-main : goal.shape_of-main
shape_of-main c =
    c.derive.ensures.settled.long

pub returns : goal.returns
returns c =
    c.derive.ensures
