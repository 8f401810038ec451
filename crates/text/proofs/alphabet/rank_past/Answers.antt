use mathlib.Core.Path.{sym}
use native.Mathlib.Omega.{arith}
use Prim.Native.Nat.{◌+◌}
use Rattle.text.proofs.Known.{rank-all}
use Rattle.text.proofs.alphabet.rank_past.Goals as goal

pub returns-then-code-ge-TIES_LAST : goal.returns-then-code-ge-TIES_LAST
returns-then-code-ge-TIES_LAST c = sym (rank-all (c.args.code + 1) (omega (arith, c.if-code-ge-TIES_LAST.true)))
