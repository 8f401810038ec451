use native.Mathlib.Omega.{arith}
use Rattle.ends.proofs.Laws.{settled-start}
use Rattle.ends.proofs.turn.Goals as goal

pub overflow_mul-m : goal.overflow_mul-m
overflow_mul-m c = omega (arith, c.requires.0.on, c.requires.0.ground.short)

pub overflow_add-rule : goal.overflow_add-rule
overflow_add-rule c = omega (arith, c.requires.1, c.requires.0.ground.shape.small)

pub overflow_add-m : goal.overflow_add-m
overflow_add-m c =
    omega (arith, c.requires.1, c.requires.0.ground.shape.small, c.requires.0.on, c.requires.0.ground.short)

pub bounds-marks-m : goal.bounds-marks-m
bounds-marks-m c =
    omega (arith, c.requires.1, c.requires.0.ground.shape.small, c.requires.0.on, c.requires.0.ground.short, c.requires.0.ground.marks-long)

pub returns-then-marks-m-eq0 : goal.returns-then-marks-m-eq0
returns-then-marks-m-eq0 c = settled-start c.requires.0

pub derive-requires : goal.derive-requires
derive-requires c =
    (c.requires.0, c.requires.1, omega (arith, c.if-marks-m-eq0.false))

pub wake-requires : goal.wake-requires
wake-requires c = (
  c.requires.2,
  omega (arith, c.requires.0.ground.marks-long, c.requires.0.on),
  omega (arith, c.requires.0.on, c.requires.0.ground.short),
  omega (arith, c.requires.1, c.requires.0.ground.shape.small),
)

pub shape_of-main-then-derive : goal.shape_of-main-then-derive
shape_of-main-then-derive c = c.derive.ensures.settled.long

pub returns-then-derive : goal.returns-then-derive
returns-then-derive c = c.derive.ensures.settled

pub shape_of-main-else-derive : goal.shape_of-main-else-derive
shape_of-main-else-derive c = c.derive.ensures.settled.long

pub returns-else-derive : goal.returns-else-derive
returns-else-derive c = c.derive.ensures.settled
