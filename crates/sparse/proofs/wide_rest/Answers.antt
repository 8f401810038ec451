use mathlib.Core.Path.{sym, ap, ◌∙◌}
use Prim.Native.Nat.{ℕ}
use native.Mathlib.Omega.{arith}
use lib.Dec.{leb}
use lib.ListN.{get_or}
use Rattle.heights.specs.Table.{up_of}
use Rattle.reach.specs.Flags.{end_at}
use Rattle.sparse.specs.Cells.{rule_of}
use Rattle.sparse.proofs.Rows.{flagged, unflagged, last-is, home-size, wide-last, wide_row, wide-none}
use Rattle.sparse.proofs.wide_rest.Goals as goal

pub rule_height-requires : goal.rule_height-requires
rule_height-requires c =
    let a = c.args in
    let g = c.requires.0 in
    let d = last-is a.code.now a.p (sym c.is_last.ensures ∙ c.if-is_last.true) in
    let l = (g.shape.names a.p c.requires.1 d.symbol).0 in (
      record { small = g.shape.small; noted-long = g.noted.long; short = g.short; marks-long = g.marks-long; room = g.room },
      omega (arith, c.wide-rule.ensures),
      c.requires.2,
      c.requires.3,
    )

pub returns-then-is_last : goal.returns-then-is_last
returns-then-is_last c =
    let a = c.args in
    c.up.ensures
    ∙ ap up_of (c.rule_height.ensures a.code.now
    ∙ ap (λ (x : ℕ). rule_of a.code.now a.marks.now a.notes.now a.s.n.0 a.main.now x a.s.i.0 a.s.j.0) c.wide-rule.ensures)
    ∙ sym (wide-last a.code.now a.marks.now a.notes.now a.s.n.0 a.main.now a.p a.s.i.0 a.s.j.0 (sym c.is_last.ensures ∙ c.if-is_last.true))

pub wanted-requires : goal.wanted-requires
wanted-requires c =
    let a = c.args in
    let g = c.requires.0 in (
      omega (arith, g.marks-long, c.requires.3),
      omega (arith, c.wide.ensures, g.noted.homes a.p c.requires.1, home-size g.shape a.p c.requires.1, g.shape.small),
      omega (arith, c.requires.3, g.short),
    )

pub returns-then-not-wanted : goal.returns-then-not-wanted
returns-then-not-wanted c =
    let a = c.args in
    let h = c.wide.ensures ∙ c.requires.0.noted.homes a.p c.requires.1 in
    let w = unflagged _ _ (c.wanted.ensures ∙ ap (λ (x : ℕ). leb 2 (end_at a.marks.now x a.s.j.0)) h) c.if-not-wanted.true in
    sym (wide-none a.code.now a.marks.now a.notes.now a.s.n.0 a.main.now a.p a.s.i.0 a.s.j.0
    (sym c.is_last.ensures ∙ c.if-is_last.false) w)

pub returns : goal.returns
returns c =
    let a = c.args in
    let h = c.wide.ensures ∙ c.requires.0.noted.homes a.p c.requires.1 in
    let w = flagged _ _ (c.wanted.ensures ∙ ap (λ (x : ℕ). leb 2 (end_at a.marks.now x a.s.j.0)) h) c.if-not-wanted.false in
    ap (λ (x : ℕ). get_or a.main.now x 0) c.cell-x.ensures
    ∙ sym (wide_row a.code.now a.marks.now a.notes.now a.s.n.0 a.main.now a.p a.s.i.0 a.s.j.0
    (sym c.is_last.ensures ∙ c.if-is_last.false) w)
