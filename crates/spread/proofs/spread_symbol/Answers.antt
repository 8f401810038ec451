use mathlib.Core.List.{List}
use mathlib.Core.Path.{sym, subst, ◌∙◌}
use Prim.Native.Nat.{ℕ, ◌+◌}
use native.Mathlib.Omega.{arith}
use lib.ListN.{set}
use Rattle.spread.specs.Spread.{High, DotSpread}
use Rattle.spread.proofs.Handing.{run_in, merging}
use Rattle.spread.proofs.Merging.{symbol_end}
use Rattle.spread.proofs.spread_symbol.Goals as goal

pub merge-requires : goal.merge-requires
merge-requires c =
    let a = c.args in
    let o = c.requires.0 in
    let l = (o.shape.names a.o.dot o.inside c.requires.1).0 in (
      run_in o c.wide-rule.result c.high-k.result a.s.i.0 c.cell-x.result
          (omega (arith, c.wide-rule.ensures)) c.high-k.ensures.most (omega (arith, o.order, o.stop)) c.cell-x.ensures,
      run_in o c.row-y.result c.high-k.result a.s.j.0 c.cell-z.result
          c.row-y.ensures.1 (omega (arith, c.high-k.ensures.most, o.order)) o.stop c.cell-z.ensures,
    )

pub returns : goal.returns
returns c =
    let a = c.args in
    let e = c.row-y.ensures.0 in
    λ (M F : List ℕ) o w.
    let h : High a.column.now _ a.s.i.0 c.saturating_sub-h.result c.high-k.result =
    subst (λ (r : ℕ). High a.column.now r a.s.i.0 c.saturating_sub-h.result c.high-k.result) e c.high-k.ensures in
    let g = merging a.code.now M F a.s.size a.s.n.0 a.s.i.0 a.s.j.0 o c.high-k.ensures.most c.requires.1 c.requires.2 w
    c.wide-rule.ensures c.cell-x.ensures c.row-y.ensures.0 c.cell-z.ensures c.saturating_sub-h.ensures in
    subst (λ (r : ℕ). DotSpread a.code.now M F a.s.size a.s.n.0 a.s.i.0 a.s.j.0 a.main.now a.column.now c.merge.new.main
    (set (set c.touch.new.column (3276 + r) c.low_run-from.result) (2764 + r) c.saturating_sub-h.result) a.o.dot) (sym e)
    (symbol_end a.code.now M F a.s.size a.s.n.0 a.s.i.0 a.s.j.0 g (omega (arith, o.placed.order, o.placed.stop, o.placed.short)) o.placed.shape.small h o.low
    (omega (arith, c.row-y.ensures)) (c.merge.ensures a.code.now M F a.s.size a.s.n.0 a.s.i.0 a.s.j.0 a.o.dot g) c.touch.ensures
    (c.touch.ensures.long ∙ o.placed.column) c.low_run-from.ensures)
