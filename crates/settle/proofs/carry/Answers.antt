use mathlib.Core.Path.{sym, ◌∙◌}
use Rattle.settle.proofs.Carrying.{carry-end, carry-first, carry-none, carry-next-at}
use Rattle.settle.proofs.carry.Goals as goal

-- src/lib.rt:80:13
pub returns-then-dot-eq0 : goal.returns-then-dot-eq0
returns-then-dot-eq0 c =
    let a = c.args in let s = a.s in let p = c.requires in carry-first a.code.now a.marks.now a.notes.now s.size s.n.0 s.i.0 s.j.0 p.0.tables.shape
    p.0.wide p.0.stop c.loop-s.invariant c.put.ensures c.if-dot-eq0.true

-- src/lib.rt:85:13
pub returns-then-height : goal.returns-then-height
returns-then-height c =
    let a = c.args in let s = a.s in let p = c.requires in carry-none a.code.now a.marks.now a.notes.now s.size s.n.0 s.i.0 s.j.0 p.0.tables.shape
    p.0.wide p.0.stop c.loop-s.invariant c.put.ensures c.loop-s-test.true c.if-dot-eq0.false (sym c.over-height.ensures ∙ c.if-height.true)

-- src/lib.rt:78:5
pub loop-s-preserved : goal.loop-s-preserved
loop-s-preserved c =
    let a = c.args in let s = a.s in let p = c.requires in carry-next-at a.code.now a.marks.now a.notes.now s.size s.n.0 s.i.0 s.j.0
    p.0.tables.shape p.0.wide p.0.stop c.loop-s.invariant c.put.ensures c.loop-s-test.true c.if-dot-eq0.false c.over-height.result
    c.over-height.ensures c.if-height.false

-- src/lib.rt:64:1
pub returns : goal.returns
returns c =
    let a = c.args in let s = a.s in let p = c.requires in carry-end a.code.now a.marks.now a.notes.now s.size s.n.0 s.i.0 s.j.0 p.0.tables.shape
    p.0.wide p.0.stop c.loop-s.invariant c.put.ensures c.loop-s-test.false
