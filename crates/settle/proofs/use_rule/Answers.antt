use mathlib.Core.Path.{sym, ap, subst, ◌∙◌}
use Prim.Native.Nat.{ℕ, ◌+◌, max}
use native.Mathlib.Omega.{arith}
use Rattle.heights.specs.Table.{up_of}
use Rattle.reach.specs.Flags.{Wanted}
use Rattle.sparse.specs.Cells.{rule_of}
use Rattle.sparse.proofs.Rows.{flagged, unflagged, home-size}
use Rattle.settle.proofs.Using.{use-away, use-unwanted, use-some, use-none, use-left, use-offer, used-last, used-carried}
use Rattle.settle.proofs.use_rule.Goals as goal

-- src/lib.rt:128:9
pub returns-then-not-reached : goal.returns-then-not-reached
returns-then-not-reached c =
    let a = c.args in let s = a.s in let p = c.requires in let x = p.0.tables in use-away a.code.now a.marks.now a.notes.now s.size s.n.0 s.i.0 s.j.0
    p.0.tables.shape p.0.wide p.0.stop a.p p.1 p.2 p.0.queued (unflagged _ _ c.reached.ensures c.if-not-reached.true)

-- src/lib.rt:130:9
pub wanted-requires : goal.wanted-requires
wanted-requires c =
    let a = c.args in let s = a.s in let p = c.requires in let x = p.0.tables in let home = c.wide.ensures ∙ x.noted.homes a.p p.1 in
    (omega (arith, x.marks-long, p.0.stop), omega (arith, home-size x.shape a.p p.1, x.shape.small), omega (arith, p.0.stop, x.short))

-- src/lib.rt:131:9
pub returns-then-not-wanted : goal.returns-then-not-wanted
returns-then-not-wanted c =
    let a = c.args in let s = a.s in let p = c.requires in let x = p.0.tables in let home = c.wide.ensures ∙ x.noted.homes a.p p.1 in let no = unflagged _ _
    c.wanted.ensures c.if-not-wanted.true in
    use-unwanted a.code.now a.marks.now a.notes.now s.size s.n.0 s.i.0 s.j.0 p.0.tables.shape p.0.wide p.0.stop a.p p.1 p.2
    p.0.queued (λ w. no (subst (λ (z : ℕ). Wanted a.marks.now z s.j.0) (sym home) w))

-- src/lib.rt:137:9
pub returns-then-v : goal.returns-then-v
returns-then-v c =
    let a = c.args in let s = a.s in let p = c.requires in let x = p.0.tables in let one = c.up-h.ensures ∙ ap up_of
    (c.rule_height.ensures a.code.now ∙ ap (λ (z : ℕ). rule_of a.code.now a.marks.now a.notes.now s.n.0 a.main.now z s.i.0 s.j.0)
    c.wide-rule.ensures) in let rest = c.empty_rest.ensures in let v = c.max-v.ensures ∙ (λ ι. max (one ι) (rest ι)) in use-none a.code.now
    a.marks.now a.notes.now s.size s.n.0 s.i.0 s.j.0 p.0.tables.shape p.0.wide p.0.stop a.p p.1 p.2 a.main.now
    c.max-v.result v p.0.queued c.if-v.true

-- src/lib.rt:144:9
pub carry_left-requires : goal.carry_left-requires
carry_left-requires c =
    let a = c.args in let s = a.s in let p = c.requires in let x = p.0.tables in let home = c.wide.ensures ∙ x.noted.homes a.p p.1 in let u = flagged _ _
    c.reached.ensures c.if-not-reached.false in let w = subst (λ (z : ℕ). Wanted a.marks.now z s.j.0) home
    (flagged _ _ c.wanted.ensures c.if-not-wanted.false) in let one = c.up-h.ensures ∙ ap up_of
    (c.rule_height.ensures a.code.now ∙ ap (λ (z : ℕ). rule_of a.code.now a.marks.now a.notes.now s.n.0 a.main.now z s.i.0 s.j.0)
    c.wide-rule.ensures) in let rest = c.empty_rest.ensures in let v = c.max-v.ensures ∙ (λ ι. max (one ι) (rest ι)) in let some = use-some
    a.code.now a.marks.now a.notes.now s.size s.n.0 s.i.0 s.j.0 p.0.tables.shape p.0.wide p.0.stop a.p p.1 p.2 a.main.now
    c.max-v.result v (omega (arith, c.type_inv.notes (1536 + (a.p + 1)))) c.if-v.false in (
      p.0,
      use-left a.code.now a.marks.now a.notes.now s.size s.n.0 s.i.0 s.j.0 p.0.tables.shape p.0.wide p.0.stop a.p p.1 p.2
          a.main.now c.max-v.result v (sym c.is_last.ensures ∙ c.if-is_last.true) u w some,
    )

-- src/lib.rt:145:9
pub returns-then-is_last : goal.returns-then-is_last
returns-then-is_last c =
    let a = c.args in let s = a.s in let p = c.requires in let x = p.0.tables in let one = c.up-h.ensures ∙ ap up_of
    (c.rule_height.ensures a.code.now ∙ ap (λ (z : ℕ). rule_of a.code.now a.marks.now a.notes.now s.n.0 a.main.now z s.i.0 s.j.0)
    c.wide-rule.ensures) in let rest = c.empty_rest.ensures in let v = c.max-v.ensures ∙ (λ ι. max (one ι) (rest ι)) in used-last a.code.now
    a.marks.now a.notes.now s.size s.n.0 s.i.0 s.j.0 p.0.tables.shape p.0.wide p.0.stop a.p p.1 p.2 a.main.now
    c.max-v.result v (sym c.is_last.ensures ∙ c.if-is_last.true) c.carry_left.ensures

-- src/lib.rt:147:5
pub carry-requires : goal.carry-requires
carry-requires c =
    let a = c.args in let s = a.s in let p = c.requires in let x = p.0.tables in let home = c.wide.ensures ∙ x.noted.homes a.p p.1 in let u = flagged _ _
    c.reached.ensures c.if-not-reached.false in let w = subst (λ (z : ℕ). Wanted a.marks.now z s.j.0) home
    (flagged _ _ c.wanted.ensures c.if-not-wanted.false) in let one = c.up-h.ensures ∙ ap up_of
    (c.rule_height.ensures a.code.now ∙ ap (λ (z : ℕ). rule_of a.code.now a.marks.now a.notes.now s.n.0 a.main.now z s.i.0 s.j.0)
    c.wide-rule.ensures) in let rest = c.empty_rest.ensures in let v = c.max-v.ensures ∙ (λ ι. max (one ι) (rest ι)) in let some = use-some
    a.code.now a.marks.now a.notes.now s.size s.n.0 s.i.0 s.j.0 p.0.tables.shape p.0.wide p.0.stop a.p p.1 p.2 a.main.now
    c.max-v.result v (omega (arith, c.type_inv.notes (1536 + (a.p + 1)))) c.if-v.false in (
      p.0,
      use-offer a.code.now a.marks.now a.notes.now s.size s.n.0 s.i.0 s.j.0 p.0.tables.shape p.0.wide p.0.stop a.p p.1 p.2
          a.main.now c.max-v.result v (sym c.is_last.ensures ∙ c.if-is_last.false) u w some,
    )

-- src/lib.rt:115:1
pub returns : goal.returns
returns c =
    let a = c.args in let s = a.s in let p = c.requires in let x = p.0.tables in let one = c.up-h.ensures ∙ ap up_of
    (c.rule_height.ensures a.code.now ∙ ap (λ (z : ℕ). rule_of a.code.now a.marks.now a.notes.now s.n.0 a.main.now z s.i.0 s.j.0)
    c.wide-rule.ensures) in let rest = c.empty_rest.ensures in let v = c.max-v.ensures ∙ (λ ι. max (one ι) (rest ι)) in used-carried
    a.code.now a.marks.now a.notes.now s.size s.n.0 s.i.0 s.j.0 p.0.tables.shape p.0.wide p.0.stop a.p p.1 p.2 a.main.now
    c.max-v.result v (sym c.is_last.ensures ∙ c.if-is_last.false) c.carry.ensures
