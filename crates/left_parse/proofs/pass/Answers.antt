use native.Mathlib.Omega.{arith}
use mathlib.Core.Path.{refl}
use Rattle.left_parse.proofs.Items.{in_table, ahead-on, ahead-end, ahead-kind}
use Rattle.left_parse.proofs.pass.Goals as goal

pub loop-p-init : goal.loop-p-init
loop-p-init c = λ g starts ss sp. record { left = ss; spells = sp; sum = refl }

pub symbolic-requires : goal.symbolic-requires
symbolic-requires c = tt

pub overflow_add-p : goal.overflow_add-p
overflow_add-p c =
    let h = in_table c.args.table.now c.loop-p.p (λ e. omega (arith, (c.symbolic.ensures.some c.loop-p-test.true).0)) in omega (arith, h)

pub loop-p-smaller : goal.loop-p-smaller
loop-p-smaller c =
    let h = in_table c.args.table.now c.loop-p.p (λ e. omega (arith, (c.symbolic.ensures.some c.loop-p-test.true).0)) in omega (arith, h)

pub loop-p-preserved : goal.loop-p-preserved
loop-p-preserved c = λ g starts ss sp. ahead-on (c.loop-p.invariant g starts ss sp) (c.symbolic.ensures.some c.loop-p-test.true).1

pub returns : goal.returns
returns c = record { ends = λ g starts ss sp. let a = c.loop-p.invariant g starts ss sp in ahead-end a (c.symbolic.ensures.none c.loop-p-test.false (ahead-kind a)) }
