use Prim.Native.Nat.{◌+◌, ◌-◌}
use mathlib.Core.Path.{◌≡◌}
use native.Mathlib.Omega.{arith}
use Rattle.chart.specs.Code.{owner_at}
use Rattle.sparse.proofs.Rows.{row_first}
use Rattle.sparse.proofs.row.Goals as goal

pub returns : goal.returns
returns c =
    let a = c.args in
    let e = owner_at a.code.now a.p - 1 in
    let o : owner_at a.code.now a.p ≡ e + 1 = omega (arith, c.wide-owner.ensures, c.if-owner-eq0.false) in
    let k = row_first a.code.now a.p e o in
    (omega (arith, c.wide-owner.ensures, k), omega (arith, c.wide-owner.ensures, (c.requires.0.owners a.p e c.requires.1 o).0))
