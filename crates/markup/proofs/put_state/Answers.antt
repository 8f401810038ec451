use mathlib.Core.Path.{refl}
use Rattle.text.specs.Lists.{chars}
use Rattle.text.specs.Utf8.{utf8}
use Rattle.encode.specs.Out.{enc}
use Rattle.encode.proofs.Puts.{wrote-text, wrote_none}
use Rattle.markup.proofs.put_state.Goals as goal

pub returns-then-due-2 : goal.returns-then-due-2
unfolding enc utf8
returns-then-due-2 c =
    wrote-text (rw (c.if-due.true, c.if-due-2.true)) (c.put_words.ensures (chars "ambiguous version-mismatch") refl)

pub returns-then-due : goal.returns-then-due
unfolding enc utf8
returns-then-due c =
    wrote-text (rw (c.if-due.true, c.if-due-2.false)) (c.put_words-then-due.ensures (chars "ambiguous") refl)

pub returns-then-due-3 : goal.returns-then-due-3
unfolding enc utf8
returns-then-due-3 c =
    wrote-text (rw (c.if-due.false, c.if-due-3.true)) (c.put_words-then-due-3.ensures (chars "version-mismatch") refl)

pub returns : goal.returns
returns c = wrote-text (rw (c.if-due.false, c.if-due-3.false)) wrote_none
