use mathlib.Core.Path.{refl, sym}
use mathlib.Core.Bool.{false}
use Rattle.encode.proofs.Puts.{wrote_as, and_then}
use Rattle.tags.proofs.put_text.Goals as goal

pub returns : goal.returns
returns c = (refl, λ t s. and_then c.put_lead-q.ensures (wrote_as (sym (s.same false)) c.put_piece-pos.ensures))
