use mathlib.Core.List.{List, []}
use mathlib.Core.Path.{sym, ap, subst, ◌∙◌}
use Prim.Native.Nat.{ℕ, ◌+◌, ◌<◌}
use native.Mathlib.Omega.{arith}
use lib.ListN.{get_or}
use Rattle.sparse.specs.Column.{Hands}
use Rattle.sparse.proofs.Rows.{in_table}
use Rattle.spread.proofs.Handing.{done_next, spread_none, spread_join}
use Rattle.spread.proofs.Listed.{listing-kept, row-idle, rows_on}
use Rattle.spread.proofs.spread.Goals as goal

pub cell-y-requires : goal.cell-y-requires
cell-y-requires c =
    let p = c.requires in
    let a = c.args in
    let w = (c.loop-k.invariant.1 []).0 in
    let l : c.loop-k.k < get_or a.column.now 2050 0 = omega (arith, c.loop-k-test.true, c.wide-k-end.ensures, w.before 2050 (omega arith)) in
    let e = p.2.each c.loop-k.k l in
    let y = c.wide-row.ensures ∙ w.before (1537 + c.loop-k.k) (omega (arith, l, p.2.count)) in
    (p.0.short, omega (arith, e.row, y, p.0.shape.small), omega (arith, p.0.wide), p.0.stop)

pub bounds-main-y : goal.bounds-main-y
bounds-main-y c =
    let p = c.requires in
    let a = c.args in
    let s = a.s in
    let w = (c.loop-k.invariant.1 []).0 in
    let l : c.loop-k.k < get_or a.column.now 2050 0 = omega (arith, c.loop-k-test.true, c.wide-k-end.ensures, w.before 2050 (omega arith)) in
    let e = p.2.each c.loop-k.k l in
    let y = c.wide-row.ensures ∙ w.before (1537 + c.loop-k.k) (omega (arith, l, p.2.count)) in
    omega (
      arith,
      w.fell.long,
      in_table s.size s.n.0 s.i.0 s.j.0 c.wide-row.result _ _ p.0.shape.small p.0.short p.0.room (omega (arith, e.row, y)) (omega
          (arith, p.0.wide)) p.0.stop c.cell-y.ensures,
    )

pub spread_row-requires : goal.spread_row-requires
spread_row-requires c =
    let p = c.requires in
    let a = c.args in
    let s = a.s in
    let w = (c.loop-k.invariant.1 []).0 in
    let l : c.loop-k.k < get_or a.column.now 2050 0 = omega (arith, c.loop-k-test.true, c.wide-k-end.ensures, w.before 2050 (omega arith)) in
    let y = c.wide-row.ensures ∙ w.before (1537 + c.loop-k.k) (omega (arith, l, p.2.count)) in
    let x = c.wide-dot.ensures ∙ w.before (1025 + c.loop-k.k) (omega (arith, l, p.2.count)) in (
      listing-kept p.0 w,
      w.low p.1,
      (
        c.wide-row.result,
        subst (λ (z : ℕ). Hands a.code.now a.marks.now s.size s.j.0 z c.wide-row.result) (sym x)
            (subst (λ (z : ℕ). Hands a.code.now a.marks.now s.size s.j.0 (get_or a.column.now (1025 + c.loop-k.k) 0) z) (sym y) (p.2.each c.loop-k.k l)),
        ap (λ (z : ℕ). get_or c.loop-k.main z 0) c.cell-y.ensures,
      ),
    )

pub loop-k-preserved : goal.loop-k-preserved
loop-k-preserved c =
    let p = c.requires in
    let a = c.args in
    let w = (c.loop-k.invariant.1 []).0 in
    let l : c.loop-k.k < get_or a.column.now 2050 0 = omega (arith, c.loop-k-test.true, c.wide-k-end.ensures, w.before 2050 (omega arith)) in
    let x = c.wide-dot.ensures ∙ w.before (1025 + c.loop-k.k) (omega (arith, l, p.2.count)) in (
      omega (arith, l),
      λ (F : List ℕ). let v = c.loop-k.invariant.1 F in
          let d = c.spread_row.ensures F in (
            spread_join _ _ _ _ _ _ _ v.0 d.0,
            done_next _ _ _ _ _ _ _ (omega (arith, p.0.wide)) p.0.stop (λ (q : ℕ). get_or a.column.now (1025 + q) 0) d.0 v.1 x d.1,
          ),
    )

pub loop-k-preserved-then-height : goal.loop-k-preserved-then-height
loop-k-preserved-then-height c =
    let p = c.requires in
    let a = c.args in
    let s = a.s in
    let w = (c.loop-k.invariant.1 []).0 in
    let l : c.loop-k.k < get_or a.column.now 2050 0 = omega (arith, c.loop-k-test.true, c.wide-k-end.ensures, w.before 2050 (omega arith)) in
    let y = c.wide-row.ensures ∙ w.before (1537 + c.loop-k.k) (omega (arith, l, p.2.count)) in
    let x = c.wide-dot.ensures ∙ w.before (1025 + c.loop-k.k) (omega (arith, l, p.2.count)) in
    let h = subst (λ (z : ℕ). Hands a.code.now a.marks.now s.size s.j.0 z c.wide-row.result) (sym x)
    (subst (λ (z : ℕ). Hands a.code.now a.marks.now s.size s.j.0 (get_or a.column.now (1025 + c.loop-k.k) 0) z) (sym y) (p.2.each c.loop-k.k l)) in (
      omega (arith, l),
      λ (F : List ℕ). let v = c.loop-k.invariant.1 F in (
        v.0,
        done_next _ _ _ _ _ _ _ (omega (arith, p.0.wide)) p.0.stop (λ (q : ℕ). get_or a.column.now (1025 + q) 0) (spread_none _ _ _ _ _ _ _ c.loop-k.main
            c.loop-k.column) v.1 x
            (row-idle p.0 F c.loop-k.main c.wide-dot.result c.wide-row.result _ h (ap (λ (z : ℕ). get_or c.loop-k.main z 0) c.cell-y.ensures)
            c.if-height.true),
      ),
    )

pub returns : goal.returns
returns c =
    let p = c.requires in
    let w = (c.loop-k.invariant.1 []).0 in
    λ (F : List ℕ). let v = c.loop-k.invariant.1 F in
    record {
      spread = v.0;
      on = rows_on p.0 F _ p.2 (λ k h. v.1 k (omega (arith, c.loop-k-test.false, c.wide-k-end.ensures, w.before 2050 (omega arith))));
    }
