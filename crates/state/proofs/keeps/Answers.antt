use Rattle.tells.proofs.Tells.{miss, not_so}
use Rattle.state.proofs.Cells.{keeps-by}
use native.Mathlib.Omega.{arith}
use Rattle.state.proofs.keeps.Goals as goal

pub is_head-requires : goal.is_head-requires
is_head-requires c =
    c.requires

pub returns-then-not-is_head : goal.returns-then-not-is_head
returns-then-not-is_head c =
    miss (λ w. not_so c.is_head.ensures c.if-not-is_head.true w.head)

pub bytes_at-requires : goal.bytes_at-requires
bytes_at-requires c =
    (let h = c.is_head.ensures.yes c.if-not-is_head.false in omega (arith, h.grammar-short, c.requires), c.requires)

pub returns-then-not-bytes_at : goal.returns-then-not-bytes_at
returns-then-not-bytes_at c =
    miss (λ w. not_so c.bytes_at.ensures c.if-not-bytes_at.true w.grammar)

pub bytes_at-requires-2 : goal.bytes_at-requires-2
bytes_at-requires-2 c =
    (let h = c.is_head.ensures.yes c.if-not-is_head.false in omega (arith, h.input-short, c.requires), c.requires)

pub returns : goal.returns
returns c =
    keeps-by (c.is_head.ensures.yes c.if-not-is_head.false)
    (c.bytes_at.ensures.yes c.if-not-bytes_at.false) c.bytes_at-2.ensures
