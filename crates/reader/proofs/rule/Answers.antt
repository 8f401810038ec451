use mathlib.Core.Path.{◌∙◌}
use native.Mathlib.Omega.{arith}
use Rattle.spacing.proofs.Places.{is-ch, not-ch}
use Rattle.reader.specs.Answers.{head_code}
use Rattle.reader.proofs.RulesHead.{room_after, rule-no-head, rule-no-body, rule-no-stop, stop-in, stop-cell, rule-got}
use Rattle.reader.proofs.rule.Goals as goal

pub returns-in_err-y : goal.returns-in_err-y
returns-in_err-y c =
    let args = c.args in
    rw c.from_residual.ensures (rule-no-head args.text.now args.p.0 c.in_err-y.ensures)

pub alternatives-requires : goal.alternatives-requires
alternatives-requires c =
    let pre = c.requires in
    let a = c.in_ok-y.ensures in
    room_after _ head_code _ _ _ _ _ _ _ _ (pre) c.rule_head.auto.out a

pub returns-in_err-z : goal.returns-in_err-z
returns-in_err-z c =
    let pre = c.requires in
    let a = c.in_ok-y.ensures in
    rw c.from_residual-in_err-z.ensures (rule-no-body _ _ _ _ (pre) _ _ _ a c.in_err-z.ensures)

pub returns-then-peek-ne-FULL_STOP : goal.returns-then-peek-ne-FULL_STOP
returns-then-peek-ne-FULL_STOP c =
    let pre = c.requires in
    let a = c.in_ok-y.ensures in
    let v = c.in_ok-z.ensures in
    rule-no-stop _ _ _ _ (pre) _ _ _ a _ (c.alternatives.auto.out ∙ c.rule_head.auto.out) _ _ v
    (not-ch c.peek.ensures 46 c.if-peek-ne-FULL_STOP.true)

pub put-end-requires : goal.put-end-requires
put-end-requires c =
    let pre = c.requires in
    let a = c.in_ok-y.ensures in
    let v = c.in_ok-z.ensures in
    stop-cell _ _ _ _ (pre) _ _ _ a _ (c.alternatives.auto.out ∙ c.rule_head.auto.out) _ _ v
    (is-ch c.peek.ensures 46 c.if-peek-ne-FULL_STOP.false)

pub after-requires : goal.after-requires
after-requires c =
    let pre = c.requires in
    let a = c.in_ok-y.ensures in
    let v = c.in_ok-z.ensures in
    omega (
      arith,
      stop-in _ _ _ _ (pre) _ _ _ a _ (c.alternatives.auto.out ∙ c.rule_head.auto.out) _ _ v
          (is-ch c.peek.ensures 46 c.if-peek-ne-FULL_STOP.false),
      c.well_formed.0,
    )

pub shape_of-out : goal.shape_of-out
shape_of-out c =
    c.put-end.auto.out ∙ c.alternatives.auto.out ∙ c.rule_head.auto.out

pub returns : goal.returns
returns c =
    let pre = c.requires in
    let a = c.in_ok-y.ensures in
    let v = c.in_ok-z.ensures in
    rw (c.after.ensures, c.put-end.ensures.0, c.put-end.ensures.1)
    (rule-got _ _ _ _ (pre) _ _ _ a _ (c.alternatives.auto.out ∙ c.rule_head.auto.out) _ _ v (is-ch
    c.peek.ensures 46 c.if-peek-ne-FULL_STOP.false))
