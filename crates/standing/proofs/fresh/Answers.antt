use native.Mathlib.Omega.{arith}
use mathlib.Core.Path.{refl}
use mathlib.Core.Logic.{inl, inr, ⊎_elim}
use Prim.Native.Nat.{◌%◌}
use Rattle.standing.proofs.Rows.{has-at, joined-start, joined_step, less-step}
use Rattle.standing.proofs.fresh.Goals as goal

pub loop-v-init : goal.loop-v-init
loop-v-init c = (joined-start, λ x h. h)

pub overflow_mul-at : goal.overflow_mul-at
overflow_mul-at c = omega (arith, c.requires)

pub overflow_add-at : goal.overflow_add-at
overflow_add-at c = omega (arith, c.requires, c.loop-v-test.true)

pub offset_bounds-sets-at : goal.offset_bounds-sets-at
offset_bounds-sets-at c = omega (arith, c.requires, c.loop-v-test.true)

pub bounds-sets-at : goal.bounds-sets-at
bounds-sets-at c = omega (arith, c.requires, c.loop-v-test.true)

pub offset_bounds-sets-at-in-loop-v : goal.offset_bounds-sets-at-in-loop-v
offset_bounds-sets-at-in-loop-v c = omega (arith, c.requires, c.loop-v-test.true)

pub bounds-sets-at-in-loop-v : goal.bounds-sets-at-in-loop-v
bounds-sets-at-in-loop-v c = omega (arith, c.requires, c.loop-v-test.true)

pub loop-v-preserved : goal.loop-v-preserved
loop-v-preserved c = (
  joined_step c.loop-v-test.true refl c.loop-v.invariant.0 (λ x e l. ⊎_elim inl (λ u. inr (c.loop-v.invariant.1 x (has-at c.loop-v.cur e u)))
      (c.join.ensures.is (x % 32) l)),
  λ x h. c.loop-v.invariant.1 x (less-step c.loop-v.cur c.loop-v.v (λ k l. (c.beyond.ensures.is k l).0) x h),
)

pub returns : goal.returns
returns c = c.loop-v.invariant
