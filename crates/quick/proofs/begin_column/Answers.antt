use mathlib.Core.Path.{sym, subst, ◌∙◌}
use native.Mathlib.Omega.{arith}
use Rattle.sparse.specs.Cells.{Tables}
use Rattle.sparse.proofs.Column.{listed_kept}
use Rattle.quick.proofs.Columns.{from_start}
use Rattle.quick.proofs.begin_column.Goals as goal

pub spread_empty-requires : goal.spread_empty-requires
spread_empty-requires c =
    let a = c.args in
    let g = c.requires in
    let u = c.untouch.ensures in
    let d = c.forget.ensures in (
      subst (Tables a.code.now a.marks.now a.notes.now a.s.size a.s.n.0) (sym g.0.2.long) g.0.1.tables,
      listed_kept (d.long ∙ u.long) (λ z h. d.before z (omega arith) ∙ u.before z (omega arith)) c.list_rows.ensures.listed,
      omega (arith, g.1),
      g.2,
      λ y i h h' h''. absurd (omega (arith, d.from y h, g.1)),
      λ i w h z. omega (arith, d.full, u.none-full),
    )

pub returns : goal.returns
returns c =
    let g = c.requires in
    from_start _ _ _ _ _ _ g.2 g.0.1 g.0.2 c.list_rows.ensures c.untouch.ensures c.forget.ensures g.1
    c.spread_empty.ensures
