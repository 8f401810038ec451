use native.Mathlib.Omega.{arith}
use Rattle.ends.proofs.Laws.{opened-none, opened-clear}
use Rattle.ends.proofs.begin_at.Goals as goal

pub overflow_mul-m : goal.overflow_mul-m
overflow_mul-m c = omega (arith, c.requires.on, c.requires.row.short)

pub overflow_add-rule : goal.overflow_add-rule
overflow_add-rule c = omega (arith, c.requires.row.small)

pub overflow_add-m : goal.overflow_add-m
overflow_add-m c = omega (arith, c.requires.row.small, c.requires.on, c.requires.row.short)

pub bounds-marks-m : goal.bounds-marks-m
bounds-marks-m c =
    let pre = c.requires in
    omega (arith, pre.row.small, pre.on, pre.row.short, pre.long)

pub returns-then-marks-m-eq0 : goal.returns-then-marks-m-eq0
returns-then-marks-m-eq0 c = opened-none (λ b. omega (arith, c.if-marks-m-eq0.true, b))

pub clear_row-requires : goal.clear_row-requires
clear_row-requires c = (c.requires.row, c.requires.on)

pub push-requires : goal.push-requires
push-requires c = c.requires.row.small

pub shape_of-main : goal.shape_of-main
shape_of-main c = c.clear_row.ensures.long

pub returns : goal.returns
returns c = opened-clear c.clear_row.ensures
