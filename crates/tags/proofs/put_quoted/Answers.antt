use mathlib.Core.Path.{sym}
use mathlib.Core.Bool.{true}
use Rattle.encode.proofs.Puts.{wrote_as, wrote_none}
use Rattle.tags.proofs.put_quoted.Goals as goal

pub returns-then-quoted : goal.returns-then-quoted
returns-then-quoted c = λ t s. rw c.if-quoted.true (wrote_as (sym (s.same true)) c.put_piece.ensures)

pub returns : goal.returns
returns c = λ t s. rw c.if-quoted.false wrote_none
