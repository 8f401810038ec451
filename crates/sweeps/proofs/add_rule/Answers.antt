use Prim.Native.Nat.{◌-◌}
use native.Mathlib.Omega.{arith}
use Rattle.chart.specs.Code.{owner_at}
use Rattle.heights.proofs.Cells.{at_room, owner-place}
use Rattle.sweeps.specs.Layers.{no-rule, rule-above}
use Rattle.sweeps.proofs.Visits.{held-rule, took-rule}
use Rattle.sweeps.proofs.add_rule.Goals as goal

pub returns-then-owner-eq0 : goal.returns-then-owner-eq0
returns-then-owner-eq0 c = no-rule c.if-owner-eq0.true

pub cell-x-requires : goal.cell-x-requires
cell-x-requires c =
    let w = owner-place c.requires.0 c.requires.1 (owner_at c.args.code.now c.args.p - 1)
    (omega (arith, c.if-owner-eq0.false)) in
    (c.requires.0.cells.short, omega (arith, w.inside, c.requires.0.cells.few), w.order, w.stop)

pub offset_bounds-main-x : goal.offset_bounds-main-x
offset_bounds-main-x c =
    omega (
      arith,
      at_room c.requires.0.cells (owner-place c.requires.0 c.requires.1 (owner_at c.args.code.now c.args.p - 1)
          (omega (arith, c.if-owner-eq0.false))) c.cell-x.ensures,
    )

pub bounds-main-x : goal.bounds-main-x
bounds-main-x c =
    at_room c.requires.0.cells (owner-place c.requires.0 c.requires.1 (owner_at c.args.code.now c.args.p - 1)
    (omega (arith, c.if-owner-eq0.false))) c.cell-x.ensures

pub returns-then-main-x : goal.returns-then-main-x
returns-then-main-x c =
    let a = c.args in
    held-rule a.code.now a.layer.n a.layer.height a.main.now a.p a.i a.j c.cell-x.result
    c.if-owner-eq0.false c.cell-x.ensures c.if-main-x.true

pub returns-then-layer-value : goal.returns-then-layer-value
returns-then-layer-value c = rule-above (omega (arith, c.value.ensures, c.if-layer-value.true))

pub returns : goal.returns
returns c =
    let a = c.args in
    took-rule a.code.now a.layer.n a.layer.height a.main.now a.p a.i a.j c.cell-x.result c.if-owner-eq0.false c.cell-x.ensures c.if-main-x.false
    (omega (arith, c.value.ensures, c.if-layer-value.false))
