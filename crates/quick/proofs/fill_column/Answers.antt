use mathlib.Core.Path.{◌≡◌, subst, ◌∙◌}
use Prim.Native.Nat.{ℕ}
use native.Mathlib.Omega.{arith}
use Rattle.sparse.proofs.Column.{units-kept}
use Rattle.quick.specs.Quick.{From}
use Rattle.quick.proofs.Columns.{before-unwanted, before-next}
use Rattle.quick.proofs.Passing.{from-passed}
use Rattle.quick.proofs.fill_column.Goals as goal

pub returns-then-column-eq0 : goal.returns-then-column-eq0
returns-then-column-eq0 c =
    let a = c.args in
    let g = c.requires in
    let l = c.list_column.ensures in (
      before-unwanted _ _ _ _ _ _ g.2 g.0 l.1 l.0 c.if-column-eq0.true,
      l.0.long,
      units-kept a.code.now a.notes.now a.s.size a.column.now c.list_column.new.column g.0.tables.shape (λ z h h'. l.2 z (omega arith)) g.4,
      g.5,
      g.6,
    )

pub loop-i-preserved : goal.loop-i-preserved
loop-i-preserved c =
    let d = c.finish.ensures in
    let p = c.past_untouched-i.ensures in (
      omega (arith, c.loop-i.invariant.0, p.order),
      c.finish.auto.main ∙ c.loop-i.invariant.1,
      from-passed _ _ _ _ _ _ (omega (arith, c.loop-i.invariant.0)) p d.0,
      d.1,
      d.2,
    )

pub returns : goal.returns
returns c =
    let a = c.args in
    let g = c.requires in
    let e : c.loop-i.i ≡ 0 = omega (arith, c.loop-i-test.false) in (
      before-next _ _ _ _ _ _ g.0.empties
          (subst (λ (x : ℕ). From a.code.now a.marks.now a.notes.now a.s.size a.s.n.0 a.s.j.0 x c.loop-i.main c.loop-i.column) e c.loop-i.invariant.2),
      c.loop-i.invariant.2.rows.listed.long,
      c.loop-i.invariant.2.rows.units,
      c.loop-i.invariant.3,
      c.loop-i.invariant.4,
    )
