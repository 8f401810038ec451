use native.Mathlib.Omega.{arith}
use mathlib.Core.Path.{refl, ◌∙◌}
use lib.ListN.{length-set}
use Rattle.bits.proofs.Laws.{masked-next, spread-next}
use Rattle.bits.proofs.spread.Goals as goal

pub loop-b-init : goal.loop-b-init
loop-b-init c = (omega arith, λ x h. absurd (omega (arith, h)), refl, λ l x h. absurd (omega (arith, h)))

pub loop-b-preserved : goal.loop-b-preserved
loop-b-preserved c = (
  omega (arith, c.loop-b-test.true),
  masked-next c.loop-b.on _ c.loop-b-test.true c.loop-b.invariant.1 c.mask.ensures.0,
  length-set c.loop-b.on _ _ ∙ c.loop-b.invariant.2,
  λ l. spread-next c.loop-b.on _ (omega (arith, c.loop-b-test.true, c.loop-b.invariant.2, l)) (c.loop-b.invariant.3 l) c.mask.ensures.1,
)

pub returns : goal.returns
returns c = record {
  is = λ x h. c.loop-b.invariant.1 x (omega (arith, c.loop-b-test.false, h));
  all = λ l x h. c.loop-b.invariant.3 l x (omega (arith, c.loop-b-test.false, h));
}
