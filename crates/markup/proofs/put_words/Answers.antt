use mathlib.Core.Path.{refl}
use Rattle.text.specs.Lists.{chars}
use Rattle.text.specs.Utf8.{utf8}
use Rattle.encode.specs.Out.{enc, Wrote}
use Rattle.encode.proofs.Puts.{wrote-bytes, and_then}
use Rattle.markup.proofs.put_words.Goals as goal

pub returns : goal.returns
unfolding enc utf8
returns c =
    let a : Wrote _ _ _ _ _ (chars " xmlns:ixml='http://invisiblexml.org/NS' ixml:state='") = wrote-bytes _ c.put_all-q.ensures refl in
    let b : Wrote _ _ _ _ _ (chars "'") = wrote-bytes _ c.put.ensures refl in
    λ t e. and_then a (and_then (wrote-bytes _ {t = t} c.put_all-q-2.ensures e) b)
