use mathlib.Core.Path.{refl}
use Rattle.text.specs.Lists.{chars}
use Rattle.text.specs.Utf8.{utf8}
use Rattle.encode.specs.Out.{enc, Wrote}
use Rattle.markup.specs.Tags.{closing}
use Rattle.encode.proofs.Puts.{wrote-bytes, wrote-text, and_then}
use Rattle.markup.proofs.put_end.Goals as goal

pub returns-then-unclosed : goal.returns-then-unclosed
unfolding enc utf8
returns-then-unclosed c = λ k n N. wrote-text {t = chars "/>"} (rw c.if-unclosed.true) (wrote-bytes _ c.put_all.ensures refl)

pub returns : goal.returns
unfolding enc utf8
returns c =
    λ k n N.
    let a : Wrote _ _ _ _ _ (chars "</") = wrote-bytes _ c.put_all-q.ensures refl in
    let b : Wrote _ _ _ _ _ (chars ">") = wrote-bytes _ c.put.ensures refl in
    wrote-text {t = closing n} (rw c.if-unclosed.false) (and_then a (and_then (c.put_name-q.ensures k n N) b))
