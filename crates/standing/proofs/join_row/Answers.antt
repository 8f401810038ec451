use native.Mathlib.Omega.{arith}
use mathlib.Core.Path.{refl}
use Rattle.standing.proofs.Rows.{merge-start, merge_step, merge-end}
use borrow.Author.Tests.{eqb-true, eqb-false, not-true, not-false}
use Rattle.standing.proofs.join_row.Goals as goal

pub loop-v-init : goal.loop-v-init
loop-v-init c = merge-start

pub overflow_mul-at : goal.overflow_mul-at
overflow_mul-at c = omega (arith, c.requires)

pub overflow_add-at : goal.overflow_add-at
overflow_add-at c = omega (arith, c.requires, c.loop-v-test.true)

pub offset_bounds-sets-at : goal.offset_bounds-sets-at
offset_bounds-sets-at c = omega (arith, c.requires, c.loop-v-test.true)

pub bounds-sets-at : goal.bounds-sets-at
bounds-sets-at c = omega (arith, c.requires, c.loop-v-test.true)

pub offset_bounds-sets-at-in-loop-v : goal.offset_bounds-sets-at-in-loop-v
offset_bounds-sets-at-in-loop-v c = omega (arith, c.requires, c.loop-v-test.true)

pub bounds-sets-at-in-loop-v : goal.bounds-sets-at-in-loop-v
bounds-sets-at-in-loop-v c = omega (arith, c.requires, c.loop-v-test.true)

pub loop-v-preserved : goal.loop-v-preserved
loop-v-preserved c =
    merge_step c.loop-v-test.true c.requires refl c.loop-v.invariant c.join-new.ensures refl (λ z. eqb-false _ _ (not-true _ z))
    (λ z. eqb-true _ _ (not-false _ z))

pub returns : goal.returns
returns c = merge-end c.loop-v-test.false c.loop-v.invariant
