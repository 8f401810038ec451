use native.Mathlib.Omega.{arith}
use Rattle.tokens.proofs.Forms.{first-in}
use Rattle.encode.proofs.Puts.{and_then, wrote-text}
use Rattle.tidy_writer.proofs.Tokens.{token-text}
use Rattle.tidy_writer.proofs.put_token.Goals as goal

pub bounds-t-k : goal.bounds-t-k
bounds-t-k c =
    first-in c.args.t.now c.args.k c.requires.1

pub overflow_cast-kind : goal.overflow_cast-kind
overflow_cast-kind c =
    omega (arith, c.type_inv.t c.args.k)

pub returns : goal.returns
returns c =
    λ x w h. wrote-text (token-text x w h) (and_then c.put_before-q.ensures (and_then c.put_held-q.ensures c.put_after.ensures))
