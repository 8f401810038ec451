use mathlib.Core.Path.{◌≡◌, sym, ap, subst, ◌∙◌}
use Prim.Native.Nat.{ℕ, ◌<◌}
use native.Mathlib.Omega.{arith}
use lib.ListN.{get_or}
use Rattle.sparse.specs.Cells.{Tables}
use Rattle.sparse.specs.Column.{Wakes}
use Rattle.settle.proofs.Waking.{Awake, awake-next, wake-idle, all-woken}
use Rattle.settle.proofs.wake_all.Goals.{then-height, else-height}
use Rattle.settle.proofs.wake_all.Goals as goal

pub wake-requires : goal.wake-requires
wake-requires c =
    let a = c.args in
    let s = a.s in
    let p = c.requires in
    let x = p.0.tables in
    let l : c.loop-k.k < get_or a.column.now 2049 0 = omega (arith, c.loop-k-test.true, c.wide-k-end.ensures) in
    let e = p.1.wakes.each c.loop-k.k l in
    let v = c.loop-k.invariant in (
      record {
        tables = subst (λ (z : ℕ). Tables a.code.now a.marks.now a.notes.now s.size s.n.0 z) (sym v.moved.fell.long) x;
        queued = v.moved.queued;
        wide = p.0.wide;
        stop = p.0.stop;
      },
      subst (Wakes a.code.now a.marks.now s.size s.j.0) (sym c.wide-dot.ensures) e,
      ap (λ (z : ℕ). get_or c.loop-k.main z 0) c.cell-y.ensures,
      omega (arith, c.if-height.true),
    )

pub loop-k-preserved : goal.loop-k-preserved
loop-k-preserved c =
    let a = c.args in
    let s = a.s in
    let p = c.requires in
    let l : c.loop-k.k < get_or a.column.now 2049 0 = omega (arith, c.loop-k-test.true, c.wide-k-end.ensures) in
    let e = subst (Wakes a.code.now a.marks.now s.size s.j.0) (sym c.wide-dot.ensures) (p.1.wakes.each c.loop-k.k l) in
    elim c.if-height.branch [
      | then-height w ↦ rw (w.main-is, w.queue-is) (awake-next a.code.now a.marks.now a.notes.now s.size s.n.0 s.i.0 s.j.0 p.0.tables.shape
          p.0.wide p.0.stop c.loop-k.k c.wide-dot.result l c.wide-dot.ensures c.loop-k.invariant w.wake.ensures)
      | else-height w ↦ rw (w.main-is, w.queue-is) (awake-next a.code.now a.marks.now a.notes.now s.size s.n.0 s.i.0 s.j.0 p.0.tables.shape
          p.0.wide p.0.stop c.loop-k.k c.wide-dot.result l c.wide-dot.ensures c.loop-k.invariant
          (wake-idle a.code.now a.marks.now a.notes.now s.size s.n.0 s.i.0 s.j.0 p.0.tables.shape p.0.wide p.0.stop c.wide-dot.result
          c.loop-k.invariant.moved.queued e
          (ap (λ (z : ℕ). get_or c.loop-k.main z 0) (sym c.cell-y.ensures) ∙ w.if-height.false)))
    ]

pub returns : goal.returns
returns c =
    let a = c.args in
    let s = a.s in
    let p = c.requires in
    let e : c.loop-k.k ≡ get_or a.column.now 2049 0 = omega (arith, c.loop-k.invariant.below, c.loop-k-test.false, c.wide-k-end.ensures) in
    all-woken a.code.now a.marks.now a.notes.now s.size s.n.0 s.i.0 s.j.0 p.0.tables.shape p.0.wide p.0.stop p.1
    (subst (Awake a.code.now a.marks.now a.notes.now s.size s.n.0 s.i.0 s.j.0 a.main.now a.queue.now c.loop-k.main c.loop-k.queue
    a.column.now) e c.loop-k.invariant)
