use mathlib.Core.Path.{sym, ap}
use Rattle.tidy.specs.Tidy.{quoted_text}
use Rattle.encode.proofs.Puts.{wrote-text}
use Rattle.tidy_writer.proofs.Tokens.{end-quoted, end-coded}
use Rattle.tidy_writer.proofs.put_end.Goals as goal

pub returns-then-look-eq0 : goal.returns-then-look-eq0
returns-then-look-eq0 c =
    wrote-text (end-quoted c.args.t.now c.args.k _ c.look.ensures.0 c.if-look-eq0.true) (wrote-text (ap quoted_text (sym c.stretch.ensures)) c.put_quoted.ensures)

pub returns : goal.returns
returns c =
    wrote-text (end-coded c.args.t.now c.args.k _ _ c.look.ensures.0 c.if-look-eq0.false c.look-2.ensures.0) c.put_coded.ensures
