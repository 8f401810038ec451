use mathlib.Core.Path.{refl}
use Rattle.text.specs.Utf8.{utf8}
use Rattle.encode.specs.Out.{enc}
use Rattle.encode.proofs.Puts.{wrote-text, wrote-bytes}
use Rattle.tidy_text.proofs.Between.{joint-0, joint-1, joint-comma}
use Rattle.tidy_text.proofs.put_joint.Goals as goal

pub returns-then-kind-eq-TO_REPEAT0SEP : goal.returns-then-kind-eq-TO_REPEAT0SEP
unfolding enc utf8
returns-then-kind-eq-TO_REPEAT0SEP c =
    wrote-text (joint-0 c.args.kind c.if-kind-eq-TO_REPEAT0SEP.true) (wrote-bytes _ c.put_all.ensures refl)

pub returns-then-kind-eq-TO_REPEAT1SEP : goal.returns-then-kind-eq-TO_REPEAT1SEP
unfolding enc utf8
returns-then-kind-eq-TO_REPEAT1SEP c =
    wrote-text (joint-1 c.args.kind c.if-kind-eq-TO_REPEAT0SEP.false c.if-kind-eq-TO_REPEAT1SEP.true) (wrote-bytes _ c.put_all-then-kind-eq-TO_REPEAT1SEP.ensures refl)

pub returns : goal.returns
unfolding enc utf8
returns c =
    wrote-text (joint-comma c.args.kind c.if-kind-eq-TO_REPEAT0SEP.false c.if-kind-eq-TO_REPEAT1SEP.false) (wrote-bytes _ c.put_all-2.ensures refl)
