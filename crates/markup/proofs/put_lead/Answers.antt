use mathlib.Core.List.{[], ◌∷◌}
use Rattle.text.specs.Utf8.{utf8}
use Rattle.encode.specs.Out.{enc}
use Rattle.encode.proofs.Puts.{wrote-bytes, wrote_none, wrote-text}
use Rattle.markup.proofs.put_lead.Goals as goal

pub returns-then-unclosed : goal.returns-then-unclosed
unfolding enc utf8
returns-then-unclosed c = wrote-bytes (62 ∷ []) c.put.ensures (rw c.if-unclosed.true)

pub returns : goal.returns
returns c = wrote-text (rw c.if-unclosed.false) wrote_none
