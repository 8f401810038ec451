use native.Mathlib.Omega.{arith}
use Rattle.tidy_parts.proofs.Parts.{after-hash}
use Rattle.tidy_parts.proofs.put_coded.Goals as goal

pub returns-then-n-lt-PAST_CHARACTERS : goal.returns-then-n-lt-PAST_CHARACTERS
returns-then-n-lt-PAST_CHARACTERS c =
    after-hash c.args.n c.args.n (omega (arith, c.if-n-lt-PAST_CHARACTERS.true)) c.put-q.ensures c.put_hex.ensures

pub returns : goal.returns
returns c =
    after-hash c.args.n 0x110000 (omega (arith, c.if-n-lt-PAST_CHARACTERS.false)) c.put-q.ensures c.put_hex-2.ensures
