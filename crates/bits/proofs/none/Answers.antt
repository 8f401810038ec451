use native.Mathlib.Omega.{arith}
use borrow.Author.Tests.{eqb-true}
use Rattle.bits.proofs.Laws.{none-next, lit-zero}
use Rattle.bits.proofs.none.Goals as goal

pub loop-v-init : goal.loop-v-init
loop-v-init c = λ x h. absurd (omega (arith, h))

pub loop-v-preserved : goal.loop-v-preserved
loop-v-preserved c = none-next c.args.set.now c.loop-v.invariant

pub returns : goal.returns
returns c = λ e x h y. lit-zero (eqb-true _ _ e) (c.loop-v.invariant x (omega (arith, c.loop-v-test.false, h)) y)
