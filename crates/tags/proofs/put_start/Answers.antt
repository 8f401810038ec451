use mathlib.Core.Path.{refl}
use Rattle.text.specs.Lists.{chars}
use Rattle.text.specs.Utf8.{utf8}
use Rattle.encode.specs.Out.{enc, Wrote}
use Rattle.encode.proofs.Puts.{wrote-bytes, and_then}
use Rattle.tags.proofs.put_start.Goals as goal

pub returns : goal.returns
unfolding enc utf8
returns c =
    let w : Wrote _ _ _ _ _ (chars "<") = wrote-bytes _ c.put-q.ensures refl in (
      rw c.no_words-none.ensures,
      λ k n N. and_then c.put_lead-q.ensures (and_then w (and_then (c.put_name-q.ensures k n N) c.put_state-pos.ensures)),
    )
