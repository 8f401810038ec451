use mathlib.Core.Path.{◌∙◌}
use Rattle.reader.proofs.RulesLoop.{context-start, context-room, loop-bad, loop-end, loop-close, loop-none, loop-on}
use Rattle.reader.proofs.RulesLoop as laws
use Rattle.reader.proofs.rules.Goals as goal

pub loop-u-init : goal.loop-u-init
loop-u-init c = context-start _ _ _ _ c.requires

pub skip-requires : goal.skip-requires
skip-requires c = c.loop-u.invariant.onward.within

pub shape_of-out-in_err-u : goal.shape_of-out-in_err-u
shape_of-out-in_err-u c = c.loop-u.invariant.len

pub returns-in_err-u : goal.returns-in_err-u
returns-in_err-u c =
    let args = c.args in
    rw c.from_residual.ensures (loop-bad args.text.now args.p.0 args.out.now args.at.0 c.loop-u.out c.loop-u.from.0 c.loop-u.to.0 c.loop-u.invariant
    c.in_err-u.ensures)

pub shape_of-out-then-u-text : goal.shape_of-out-then-u-text
shape_of-out-then-u-text c =
    c.loop-u.invariant.len

pub returns-then-u-text : goal.returns-then-u-text
returns-then-u-text c =
    let k = c.in_ok-u.ensures in
    loop-end _ _ _ _ _ c.loop-u.from.0 c.loop-u.to.0 c.loop-u.invariant _ k c.if-u-text.true

pub shape_of-out-then-u-from : goal.shape_of-out-then-u-from
shape_of-out-then-u-from c =
    c.loop-u.invariant.len

pub returns-then-u-from : goal.returns-then-u-from
returns-then-u-from c =
    let k = c.in_ok-u.ensures in
    loop-close _ _ _ _ _ c.loop-u.from.0 c.loop-u.to.0 c.loop-u.invariant _ k c.if-u-text.false c.if-u-from.true

pub rule-requires : goal.rule-requires
rule-requires c =
    let pre = c.requires in
    let k = c.in_ok-u.ensures in
    context-room _ _ _ _ _ c.loop-u.from.0 c.loop-u.to.0 c.loop-u.invariant _ (pre) k

pub shape_of-out-in_err-w : goal.shape_of-out-in_err-w
shape_of-out-in_err-w c =
    c.rule.auto.out ∙ c.loop-u.invariant.len

pub returns-in_err-w : goal.returns-in_err-w
returns-in_err-w c =
    let k = c.in_ok-u.ensures in
    rw c.from_residual-in_err-w.ensures (loop-none _ _ _ _ _ c.loop-u.from.0 c.loop-u.to.0 c.loop-u.invariant _ k c.if-u-text.false c.if-u-from.false c.in_err-w.ensures)

pub loop-u-smaller : goal.loop-u-smaller
loop-u-smaller c =
    let k = c.in_ok-u.ensures in
    let a = c.in_ok-w.ensures in
    laws.loop-less _ _ _ _ _ c.loop-u.from.0 c.loop-u.to.0 c.loop-u.invariant _ k c.if-u-text.false _ _ _ a

pub loop-u-preserved : goal.loop-u-preserved
loop-u-preserved c =
    let k = c.in_ok-u.ensures in
    let a = c.in_ok-w.ensures in
    loop-on _ _ _ _ _ c.loop-u.from.0 c.loop-u.to.0 c.loop-u.invariant _ k c.if-u-text.false _ _ _ a c.if-u-from.false c.rule.auto.out
