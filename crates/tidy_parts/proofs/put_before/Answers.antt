use mathlib.Core.Path.{refl}
use Rattle.text.specs.Utf8.{utf8}
use Rattle.encode.specs.Out.{enc}
use Rattle.encode.proofs.Puts.{wrote-text, wrote_none, wrote-bytes}
use Rattle.tidy_parts.proofs.Signs.{lead-mark, lead-member, lead-insert, lead-version, lead-none}
use Rattle.tidy_parts.proofs.put_before.Goals as goal

pub returns-then-kind-lt-MEMBER_QUOTED : goal.returns-then-kind-lt-MEMBER_QUOTED
returns-then-kind-lt-MEMBER_QUOTED c =
    wrote-text (lead-mark c.args.kind c.if-kind-lt-MEMBER_QUOTED.true) c.put_sign.ensures

pub returns-then-kind-lt-INSERT_QUOTED : goal.returns-then-kind-lt-INSERT_QUOTED
returns-then-kind-lt-INSERT_QUOTED c =
    wrote-text (lead-member c.args.kind c.if-kind-lt-MEMBER_QUOTED.false c.if-kind-lt-INSERT_QUOTED.true) wrote_none

pub returns-then-kind-lt-OPEN_GROUP : goal.returns-then-kind-lt-OPEN_GROUP
unfolding enc utf8
returns-then-kind-lt-OPEN_GROUP c =
    wrote-text (lead-insert c.args.kind c.if-kind-lt-MEMBER_QUOTED.false c.if-kind-lt-INSERT_QUOTED.false c.if-kind-lt-OPEN_GROUP.true) (wrote-bytes _ c.put.ensures refl)

pub returns-then-kind-eq-VERSION : goal.returns-then-kind-eq-VERSION
unfolding enc utf8
returns-then-kind-eq-VERSION c =
    wrote-text (lead-version c.args.kind c.if-kind-lt-MEMBER_QUOTED.false c.if-kind-lt-INSERT_QUOTED.false c.if-kind-lt-OPEN_GROUP.false c.if-kind-eq-VERSION.true)
    (wrote-bytes _ c.put_all.ensures refl)

pub returns : goal.returns
returns c =
    wrote-text (lead-none c.args.kind c.if-kind-lt-MEMBER_QUOTED.false c.if-kind-lt-INSERT_QUOTED.false c.if-kind-lt-OPEN_GROUP.false c.if-kind-eq-VERSION.false) wrote_none
