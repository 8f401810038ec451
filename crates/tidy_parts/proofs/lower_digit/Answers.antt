use mathlib.Core.Path.{sym}
use native.Mathlib.Omega.{arith}
use Rattle.tidy_parts.proofs.Parts.{low_digit, high_digit}
use Rattle.tidy_parts.proofs.lower_digit.Goals as goal

pub returns-then-d-lt-FIRST_LETTER : goal.returns-then-d-lt-FIRST_LETTER
returns-then-d-lt-FIRST_LETTER c = (sym (low_digit c.args.d c.if-d-lt-FIRST_LETTER.true), omega (arith, c.if-d-lt-FIRST_LETTER.true))

pub returns : goal.returns
returns c = (sym (high_digit c.args.d c.if-d-lt-FIRST_LETTER.false), omega (arith, c.requires))
