use mathlib.Core.Path.{refl}
use native.Mathlib.Omega.{arith}
use Rattle.spread.proofs.Handing.{low-kept}
use Rattle.quick.proofs.Columns.{from-bare, from_next}
use Rattle.quick.proofs.finish.Goals as goal

pub returns-then-column-s-eq0 : goal.returns-then-column-s-eq0
returns-then-column-s-eq0 c =
    let a = c.args in
    let g = c.requires in
    (from-bare _ _ _ _ _ _ a.s.i.0 g.1 g.0 c.if-column-s-eq0.true, g.2, g.3)

pub spread-requires : goal.spread-requires
spread-requires c =
    let a = c.args in
    let g = c.requires in
    let t = g.0.tables in
    let d = c.settle.ensures in (
      record {
        shape = t.shape;
        short = t.short;
        marks-long = t.marks-long;
        room = omega (arith, t.room, d.fell.long);
        wide = g.1;
        stop = g.0.stop;
        column = g.0.rows.listed.long;
        full = g.0.full;
      },
      low-kept a.code.now a.marks.now a.notes.now a.s.size a.s.n.0 a.s.i.0 a.s.j.0 a.main.now c.settle.new.main a.column.now
          a.column.now
          d.fell.le (λ y l. (refl, refl)) (λ y i l l' l''. g.0.low y i l l' (omega arith)),
      g.0.rows.hands,
    )

pub returns : goal.returns
returns c =
    let a = c.args in
    let g = c.requires in
    let d = c.settle.ensures in (
      from_next _ _ _ _ _ _ a.s.i.0 g.1 g.0 d.fell d.least (c.spread.ensures a.notes.now),
      d.queued,
      d.empty,
    )
