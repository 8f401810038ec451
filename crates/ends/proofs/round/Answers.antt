use native.Mathlib.Omega.{arith}
use mathlib.Core.Path.{refl, subst}
use Prim.Native.Nat.{ℕ}
use Rattle.ends.specs.Table.{Rounded}
use Rattle.ends.proofs.Laws.{settling-as}
use Rattle.ends.proofs.Rounds.{rounded-start, rounded-next}
use Rattle.ends.proofs.round.Goals as goal

pub loop-rule-init : goal.loop-rule-init
loop-rule-init c =
    (omega arith, rounded-start c.requires)

pub redo-more-requires : goal.redo-more-requires
redo-more-requires c =
    (settling-as c.requires c.loop-rule.invariant.1.settled, omega (arith, c.loop-rule.invariant.0, c.loop-rule-test.true))

pub loop-rule-smaller : goal.loop-rule-smaller
loop-rule-smaller c =
    omega (arith, c.loop-rule-test.true)

pub loop-rule-preserved : goal.loop-rule-preserved
loop-rule-preserved c = (
  omega (arith, c.loop-rule.invariant.0),
  rounded-next c.loop-rule.grew c.redo-more.result c.loop-rule.invariant.1 c.redo-more.ensures (omega (arith, c.loop-rule-test.true)) refl,
)

pub shape_of-main : goal.shape_of-main
shape_of-main c = c.loop-rule.invariant.1.settled.long

pub returns : goal.returns
returns c =
    subst (λ (k : ℕ). Rounded c.args.code.now c.args.firsts.now c.args.marks.now c.args.s.size c.args.s.n c.args.s.m k
    c.args.main.now c.loop-rule.main c.loop-rule.grew) (omega (arith, c.loop-rule-test.false)) c.loop-rule.invariant.1
