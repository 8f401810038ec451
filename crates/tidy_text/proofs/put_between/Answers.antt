use mathlib.Core.Path.{refl}
use mathlib.Core.List.{◌∷◌}
use Rattle.text.specs.Utf8.{utf8}
use Rattle.encode.specs.Out.{enc}
use Rattle.encode.proofs.Puts.{wrote-text, wrote-bytes, wrote_none}
use Rattle.tidy_text.proofs.Between.{before-factor, before_head, before-member, before-set-end, before-late, before-none}
use Rattle.tidy_text.proofs.Owed.{lead-by, lead-first}
use Rattle.tidy_text.proofs.put_between.Goals as goal

pub returns-then-first : goal.returns-then-first
returns-then-first c =
    λ x ts w. wrote-text (lead-first c.args.first _ c.if-first.true) wrote_none

pub returns-then-kind-lt-RULE_HEAD : goal.returns-then-kind-lt-RULE_HEAD
returns-then-kind-lt-RULE_HEAD c =
    λ x ts w. wrote-text (lead-by c.requires.1.inside c.args.first x ts c.if-first.false w (before-factor _ _ c.if-kind-lt-RULE_HEAD.true))
    (c.put_joint_before.ensures (x ∷ ts) w)

pub returns-then-kind-lt-MEMBER_QUOTED : goal.returns-then-kind-lt-MEMBER_QUOTED
returns-then-kind-lt-MEMBER_QUOTED c =
    λ x ts w. wrote-text (lead-by c.requires.1.inside c.args.first x ts c.if-first.false w (before_head _ _ c.if-kind-lt-RULE_HEAD.false c.if-kind-lt-MEMBER_QUOTED.true)) wrote_none

pub returns-then-kind-lt-SET_END : goal.returns-then-kind-lt-SET_END
unfolding enc utf8
returns-then-kind-lt-SET_END c =
    λ x ts w. wrote-text (lead-by c.requires.1.inside c.args.first x ts c.if-first.false w (before-member _ _ c.if-kind-lt-MEMBER_QUOTED.false c.if-kind-lt-SET_END.true))
    (wrote-bytes _ c.put_all.ensures refl)

pub returns-then-kind-eq-SET_END : goal.returns-then-kind-eq-SET_END
returns-then-kind-eq-SET_END c =
    λ x ts w. wrote-text (lead-by c.requires.1.inside c.args.first x ts c.if-first.false w (before-set-end _ _ c.if-kind-eq-SET_END.true)) wrote_none

pub returns-then-kind-lt-CLOSE_GROUP : goal.returns-then-kind-lt-CLOSE_GROUP
returns-then-kind-lt-CLOSE_GROUP c =
    λ x ts w. wrote-text (lead-by c.requires.1.inside c.args.first x ts c.if-first.false w (before-late _ _ c.if-kind-lt-SET_END.false c.if-kind-eq-SET_END.false c.if-kind-lt-CLOSE_GROUP.true))
    (c.put_joint_before-then-kind-lt-CLOSE_GROUP.ensures (x ∷ ts) w)

pub returns : goal.returns
returns c =
    λ x ts w. wrote-text (lead-by c.requires.1.inside c.args.first x ts c.if-first.false w (before-none _ _ c.if-kind-lt-CLOSE_GROUP.false)) wrote_none
