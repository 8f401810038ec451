use mathlib.Core.Path.{sym, ◌∙◌}
use Rattle.tidy_writer.proofs.Walk.{depth-single, depth-set, depth-head, depth-insert, depth-other, depth-group, depth-end, ends_set, ends-group}
use Rattle.tidy_writer.proofs.depth_after.Goals as goal

pub returns-then-kind-lt-INCLUDE : goal.returns-then-kind-lt-INCLUDE
returns-then-kind-lt-INCLUDE c =
    sym (depth-single c.args.nested c.args.kind c.if-kind-lt-INCLUDE.true)

pub returns-then-kind-lt-RULE_HEAD : goal.returns-then-kind-lt-RULE_HEAD
returns-then-kind-lt-RULE_HEAD c =
    sym (depth-set c.args.nested c.args.kind c.if-kind-lt-INCLUDE.false c.if-kind-lt-RULE_HEAD.true)

pub returns-then-kind-lt-SET_END : goal.returns-then-kind-lt-SET_END
returns-then-kind-lt-SET_END c =
    sym (depth-head c.args.nested c.args.kind c.if-kind-lt-RULE_HEAD.false c.if-kind-lt-SET_END.true)

pub returns-then-kind-eq-SET_END : goal.returns-then-kind-eq-SET_END
returns-then-kind-eq-SET_END c =
    c.saturating_sub.ensures ∙ sym (depth-end c.args.nested c.args.kind (ends_set c.args.kind c.if-kind-eq-SET_END.true))

pub returns-then-kind-lt-OPEN_GROUP : goal.returns-then-kind-lt-OPEN_GROUP
returns-then-kind-lt-OPEN_GROUP c =
    sym (depth-insert c.args.nested c.args.kind c.if-kind-lt-SET_END.false c.if-kind-eq-SET_END.false c.if-kind-lt-OPEN_GROUP.true)

pub returns-then-kind-eq-OPEN_GROUP : goal.returns-then-kind-eq-OPEN_GROUP
returns-then-kind-eq-OPEN_GROUP c =
    sym (depth-group c.args.nested c.args.kind c.if-kind-eq-OPEN_GROUP.true)

pub returns-then-kind-eq-CLOSE_GROUP : goal.returns-then-kind-eq-CLOSE_GROUP
returns-then-kind-eq-CLOSE_GROUP c =
    c.saturating_sub-then-kind-eq-CLOSE_GROUP.ensures ∙ sym (depth-end c.args.nested c.args.kind (ends-group c.args.kind c.if-kind-eq-CLOSE_GROUP.true))

pub returns : goal.returns
returns c =
    sym (depth-other c.args.nested c.args.kind c.if-kind-lt-OPEN_GROUP.false c.if-kind-eq-OPEN_GROUP.false c.if-kind-eq-CLOSE_GROUP.false)
