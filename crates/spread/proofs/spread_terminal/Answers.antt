use mathlib.Core.List.{List}
use Prim.Native.Nat.{ℕ}
use native.Mathlib.Omega.{arith}
use Rattle.sparse.proofs.Rows.{flagged}
use Rattle.spread.proofs.Handing.{terminal-low, terminal-kept}
use Rattle.spread.proofs.spread_terminal.Goals as goal

pub returns-then-lower : goal.returns-then-lower
returns-then-lower c =
    let a = c.args in
    let w = c.wide-width.ensures in
    λ (F : List ℕ) o.
    terminal-low a.code.now a.marks.now F a.s.size a.s.n.0 a.s.i.0 a.s.j.0 o c.requires.1
    (flagged _ _ c.fits.ensures c.if-not-fits.false) (omega (arith, c.if-width-eq0.false, c.if-s-width.false)) (omega (arith, w, c.if-s-width.false))
    c.row.ensures.0 c.lower.ensures c.if-lower.true

pub returns-else-lower : goal.returns-else-lower
returns-else-lower c =
    let a = c.args in
    let w = c.wide-width.ensures in
    λ (F : List ℕ) o.
    terminal-kept a.code.now a.marks.now F a.s.size a.s.n.0 a.s.i.0 a.s.j.0 o c.requires.1
    (flagged _ _ c.fits.ensures c.if-not-fits.false) (omega (arith, c.if-width-eq0.false, c.if-s-width.false)) (omega (arith, w, c.if-s-width.false))
    c.row.ensures.0 c.lower.ensures c.if-lower.false
