use mathlib.Core.Path.{sym, ap, subst, ◌∙◌}
use Prim.Native.Nat.{ℕ, ◌+◌}
use native.Mathlib.Omega.{arith}
use lib.Dec.{leb}
use lib.ListN.{set}
use Rattle.reach.specs.Flags.{end_at}
use Rattle.sparse.proofs.Rows.{flagged, home-size}
use Rattle.quick.specs.Quick.{AfterDots, ListedTo}
use Rattle.quick.proofs.Columns.{listed-add, after-added, dot-same, dot-cleared}
use Rattle.quick.proofs.list_dot.Goals as goal

pub wanted-requires : goal.wanted-requires
wanted-requires c =
    let a = c.args in
    let g = c.requires.0 in (
      omega (arith, g.marks-long, c.requires.1),
      omega (arith, c.wide.ensures, g.noted.homes a.x c.requires.2, home-size g.shape a.x c.requires.2, g.shape.small),
      omega (arith, c.requires.1, g.short),
    )

pub returns-then-has_row : goal.returns-then-has_row
returns-then-has_row c =
    let a = c.args in
    let h = c.wide.ensures ∙ c.requires.0.noted.homes a.x c.requires.2 in
    let w = flagged _ _ (c.wanted.ensures ∙ ap (λ (z : ℕ). leb 2 (end_at a.marks.now z a.s.j.0)) h) c.if-not-wanted.false in (
      subst (λ (q : ℕ). ListedTo a.code.now a.marks.now a.s.n.0 a.s.j.0 (a.x + 1) (set (set a.column.now q a.x) 512 (q + 1))) (sym c.wide-count.ensures)
          (listed-add _ _ _ _ (omega (arith, c.requires.2, c.requires.0.shape.small)) w c.requires.3),
      dot-cleared _ _ _ _ c.clear_row.ensures,
      subst (λ (q : ℕ). AfterDots a.column.now (set (set a.column.now q a.x) 512 (q + 1))) (sym c.wide-count.ensures)
          (after-added _ _ _ _ (omega (arith, c.requires.2, c.requires.0.shape.small)) w c.requires.3),
    )

pub returns-else-has_row : goal.returns-else-has_row
returns-else-has_row c =
    let a = c.args in
    let h = c.wide.ensures ∙ c.requires.0.noted.homes a.x c.requires.2 in
    let w = flagged _ _ (c.wanted.ensures ∙ ap (λ (z : ℕ). leb 2 (end_at a.marks.now z a.s.j.0)) h) c.if-not-wanted.false in (
      subst (λ (q : ℕ). ListedTo a.code.now a.marks.now a.s.n.0 a.s.j.0 (a.x + 1) (set (set a.column.now q a.x) 512 (q + 1))) (sym c.wide-count.ensures)
          (listed-add _ _ _ _ (omega (arith, c.requires.2, c.requires.0.shape.small)) w c.requires.3),
      dot-same _ _ _ _ (λ _. c.has_row.ensures c.if-has_row.false),
      subst (λ (q : ℕ). AfterDots a.column.now (set (set a.column.now q a.x) 512 (q + 1))) (sym c.wide-count.ensures)
          (after-added _ _ _ _ (omega (arith, c.requires.2, c.requires.0.shape.small)) w c.requires.3),
    )
