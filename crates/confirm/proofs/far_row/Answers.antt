use native.Mathlib.Omega.{arith}
use Rattle.confirm.proofs.Reaches.{best-start, words-best, row_next, row-end}
use Rattle.confirm.proofs.far_row.Goals as goal

pub loop-x-init : goal.loop-x-init
loop-x-init c = best-start (λ q i z. omega (arith, z.1))

pub overflow_mul-p : goal.overflow_mul-p
overflow_mul-p c = omega (arith, c.requires.1, c.requires.0.tokened.shape.small)

pub overflow_add-p : goal.overflow_add-p
overflow_add-p c = omega (arith, c.requires.1, c.requires.0.tokened.shape.small, c.loop-x-test.true)

pub offset_bounds-sets-p : goal.offset_bounds-sets-p
offset_bounds-sets-p c = omega (arith, c.requires.1, c.requires.0.tokened.shape.small, c.loop-x-test.true)

pub bounds-sets-p : goal.bounds-sets-p
bounds-sets-p c = omega (arith, c.requires.1, c.requires.0.tokened.shape.small, c.loop-x-test.true)

pub far_word-far-requires : goal.far_word-far-requires
far_word-far-requires c = (c.requires.0, c.requires.1, c.loop-x-test.true)

pub loop-x-preserved : goal.loop-x-preserved
loop-x-preserved c =
    row_next c.loop-x.invariant (words-best c.args.sets.now c.requires.1 c.loop-x-test.true c.far_word-far.ensures)

pub returns : goal.returns
returns c = row-end c.loop-x-test.false c.loop-x.invariant
