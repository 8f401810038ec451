use mathlib.Core.List.{List}
use mathlib.Core.Path.{sym, ap, ◌∙◌}
use Prim.Native.Nat.{ℕ}
use lib.ListN.{get_or}
use Rattle.sparse.proofs.Rows.{flagged, unflagged, rule-empty, rule-cell, rule-none}
use Rattle.sparse.proofs.rule_height.Goals as goal

pub returns-then-s : goal.returns-then-s
returns-then-s c =
    let a = c.args in
    λ (o : List ℕ). sym (rule-empty o a.marks.now a.notes.now a.s.n.0 a.main.now a.rule a.s.i.0 a.s.j.0 c.if-s.true)

pub returns-then-not-wanted : goal.returns-then-not-wanted
returns-then-not-wanted c =
    let a = c.args in
    let w = unflagged _ _ c.wanted.ensures c.if-not-wanted.true in
    λ (o : List ℕ). sym (rule-none o a.marks.now a.notes.now a.s.n.0 a.main.now a.rule a.s.i.0 a.s.j.0 c.if-s.false w)

pub returns : goal.returns
returns c =
    let a = c.args in
    let w = flagged _ _ c.wanted.ensures c.if-not-wanted.false in
    λ (o : List ℕ). ap (λ (x : ℕ). get_or a.main.now x 0) c.cell-x.ensures
    ∙ sym (rule-cell o a.marks.now a.notes.now a.s.n.0 a.main.now a.rule a.s.i.0 a.s.j.0 c.if-s.false w)
