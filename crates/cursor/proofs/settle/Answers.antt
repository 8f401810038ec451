use native.Mathlib.Omega.{arith}
use Rattle.cursor.specs.Events.{s-close, s-end}
use Rattle.cursor.proofs.Laws.{decide-zero}
use Rattle.cursor.proofs.Turns.{came-begin, came-settled}
use Rattle.cursor.proofs.settle.Goals as goal

pub returns-then-h-eq0 : goal.returns-then-h-eq0
returns-then-h-eq0 c = came-settled came-begin (s-end (omega (arith, c.kind_at-k.ensures, c.if-k-lt-ALTERNATIVE_END.false)) c.if-h-eq0.true)

pub returns-then-closes : goal.returns-then-closes
returns-then-closes c =
    came-settled came-begin (s-close (omega (arith, c.kind_at-k.ensures, c.if-k-lt-ALTERNATIVE_END.false)) (decide-zero _ c.if-h-eq0.false) _
    c.note_at-item.ensures (c.closes.ensures.yes c.if-closes.true))
