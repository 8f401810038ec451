use mathlib.Core.Path.{refl}
use Rattle.text.specs.Utf8.{utf8}
use Rattle.encode.specs.Out.{enc}
use Rattle.encode.proofs.Puts.{wrote-bytes, wrote_none, wrote-text}
use Rattle.tidy_parts.proofs.Parts.{sign-0, sign-1, sign-2, sign-3}
use Rattle.tidy_parts.proofs.put_sign.Goals as goal

pub returns-then-mark-eq-INCLUDED : goal.returns-then-mark-eq-INCLUDED
unfolding enc utf8
returns-then-mark-eq-INCLUDED c = wrote-text (sign-1 c.args.mark c.if-mark-eq-INCLUDED.true) (wrote-bytes _ c.put.ensures refl)

pub returns-then-mark-eq-ATTRIBUTE : goal.returns-then-mark-eq-ATTRIBUTE
unfolding enc utf8
returns-then-mark-eq-ATTRIBUTE c =
    wrote-text (sign-2 c.args.mark
    c.if-mark-eq-INCLUDED.false
    c.if-mark-eq-ATTRIBUTE.true)
    (wrote-bytes _ c.put-then-mark-eq-ATTRIBUTE.ensures refl)

pub returns-then-mark-eq-DELETED : goal.returns-then-mark-eq-DELETED
unfolding enc utf8
returns-then-mark-eq-DELETED c =
    wrote-text (sign-3 c.args.mark
    c.if-mark-eq-INCLUDED.false
    c.if-mark-eq-ATTRIBUTE.false
    c.if-mark-eq-DELETED.true)
    (wrote-bytes _ c.put-then-mark-eq-DELETED.ensures refl)

pub returns : goal.returns
returns c = wrote-text (sign-0 c.args.mark c.if-mark-eq-INCLUDED.false c.if-mark-eq-ATTRIBUTE.false c.if-mark-eq-DELETED.false) wrote_none
