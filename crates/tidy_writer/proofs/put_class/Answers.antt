use Rattle.encode.proofs.Puts.{and_then, wrote-text}
use Rattle.tidy_writer.proofs.Tokens.{class-one, class-two}
use Rattle.tidy_writer.proofs.put_class.Goals as goal

pub returns-then-d-eq0 : goal.returns-then-d-eq0
returns-then-d-eq0 c =
    wrote-text (class-one c.args.t.now c.args.k _ _ c.look.ensures.0 c.look-d.ensures.0 c.if-d-eq0.true) c.put_char-q.ensures

pub returns : goal.returns
returns c =
    wrote-text (class-two c.args.t.now c.args.k _ _ c.look.ensures.0 c.look-d.ensures.0 c.if-d-eq0.false)
    (and_then c.put_char-q.ensures c.put_char.ensures)
