use native.Mathlib.Omega.{arith}
use mathlib.Core.Path.{sym, ◌∙◌}
use Prim.Native.Nat.{◌+◌}
use Rattle.splits.proofs.Values.{row_last}
use Rattle.sparse.proofs.Rows.{last-is}
use Rattle.splits.proofs.rest_cells.Goals as goal

pub cell-requires : goal.cell-requires
cell-requires c =
    let p = c.requires in
    let q = c.args.p + 1 in
    let e = c.is_last.ensures in
    let l = last-is c.args.code.now q (sym e ∙ c.if-is_last.true) in
    (p.2, omega (arith, p.0.small, c.number_at.ensures.0, (p.0.names q p.1 l.symbol).0), omega arith, p.3)

pub returns-then-is_last : goal.returns-then-is_last
returns-then-is_last c =
    let p = c.requires in
    row_last c.args.s.n.0 c.args.s.j.0 (c.args.p + 1) p.0 p.1 (sym c.is_last.ensures ∙ c.if-is_last.true)
    c.number_at.ensures.0 c.cell.ensures
