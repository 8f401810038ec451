use mathlib.Core.Path.{◌≡◌, sym, ◌∙◌}
use Prim.Native.Nat.{◌+◌, ◌-◌}
use native.Mathlib.Omega.{arith}
use Rattle.chart.specs.Code.{owner_at}
use Rattle.settle.proofs.Held.{put-own, put-owner, put-above}
use Rattle.settle.proofs.put.Goals as goal

-- src/lib.rt:55:9
pub returns-then-owner-eq0 : goal.returns-then-owner-eq0
returns-then-owner-eq0 c =
    let a = c.args in let p = c.requires in let o = sym c.wide-owner.ensures ∙ c.if-owner-eq0.true in let s = a.s in
    put-own a.code.now a.marks.now a.notes.now s.size s.n.0 s.i.0 s.j.0 p.0.tables.shape p.0.wide p.0.stop p.1 o
    c.lower.ensures p.0.queued

-- src/lib.rt:57:8
pub lower-requires-2 : goal.lower-requires-2
lower-requires-2 c =
    let a = c.args in let p = c.requires in
    let o : owner_at a.code.now a.o.dot ≡ c.wide-owner.result - 1 + 1 = omega (arith, c.wide-owner.ensures, c.if-owner-eq0.false) in
    let x = p.0.tables in let e = x.shape.owners a.o.dot (c.wide-owner.result - 1) p.1.on.inside o in
    (x.shape.small, x.short, x.room, e.0, omega (arith, p.0.wide), p.0.stop)

-- src/lib.rt:58:9
pub enqueue-requires : goal.enqueue-requires
enqueue-requires c =
    let a = c.args in let p = c.requires in
    let o : owner_at a.code.now a.o.dot ≡ c.wide-owner.result - 1 + 1 = omega (arith, c.wide-owner.ensures, c.if-owner-eq0.false) in
    (p.0.queued, (p.0.tables.shape.owners a.o.dot (c.wide-owner.result - 1) p.1.on.inside o).0)

-- src/lib.rt:41:1
pub returns-then-lower : goal.returns-then-lower
returns-then-lower c =
    let a = c.args in let p = c.requires in let s = a.s in
    let o : owner_at a.code.now a.o.dot ≡ c.wide-owner.result - 1 + 1 = omega (arith, c.wide-owner.ensures, c.if-owner-eq0.false) in
    put-owner a.code.now a.marks.now a.notes.now s.size s.n.0 s.i.0 s.j.0 p.0.tables.shape p.0.wide p.0.stop
    (c.wide-owner.result - 1) p.1 o c.lower-2.ensures c.if-lower.true c.enqueue.ensures

-- src/lib.rt:41:1
pub returns-else-lower : goal.returns-else-lower
returns-else-lower c =
    let a = c.args in let p = c.requires in let s = a.s in
    let o : owner_at a.code.now a.o.dot ≡ c.wide-owner.result - 1 + 1 = omega (arith, c.wide-owner.ensures, c.if-owner-eq0.false) in
    put-above a.code.now a.marks.now a.notes.now s.size s.n.0 s.i.0 s.j.0 p.0.tables.shape p.0.wide p.0.stop
    (c.wide-owner.result - 1) p.1 o c.lower-2.ensures c.if-lower.false p.0.queued
