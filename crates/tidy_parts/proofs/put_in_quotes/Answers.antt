use mathlib.Core.Path.{refl}
use Rattle.text.specs.Utf8.{utf8}
use Rattle.encode.specs.Out.{enc}
use Rattle.encode.proofs.Puts.{wrote-bytes, wrote-text}
use Rattle.tidy_parts.proofs.Parts.{in-quotes-quote, in-quotes-other}
use Rattle.tidy_parts.proofs.put_in_quotes.Goals as goal

pub returns-then-c-eq-QUOTE : goal.returns-then-c-eq-QUOTE
unfolding enc utf8
returns-then-c-eq-QUOTE c =
    wrote-text (in-quotes-quote c.args.c c.if-c-eq-QUOTE.true) (wrote-bytes _ c.put_all.ensures refl)

pub returns : goal.returns
returns c =
    wrote-text (in-quotes-other c.args.c c.if-c-eq-QUOTE.false) c.put_char.ensures
