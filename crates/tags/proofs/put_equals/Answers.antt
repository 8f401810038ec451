use mathlib.Core.Path.{refl}
use Rattle.text.specs.Lists.{chars}
use Rattle.text.specs.Utf8.{utf8}
use Rattle.encode.specs.Out.{enc, Wrote}
use Rattle.encode.proofs.Puts.{wrote-bytes, and_then}
use Rattle.tags.proofs.put_equals.Goals as goal

pub returns : goal.returns
unfolding enc utf8
returns c =
    let w₁ : Wrote _ _ _ _ _ (chars " ") = wrote-bytes _ c.put-q.ensures refl in
    let w₃ : Wrote _ _ _ _ _ (chars "='") = wrote-bytes _ c.put_all.ensures refl in
    λ k n N. and_then w₁ (and_then (c.put_name-q.ensures k n N) w₃)
