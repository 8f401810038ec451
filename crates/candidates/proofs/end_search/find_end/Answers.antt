use native.Mathlib.Omega.{arith}
use mathlib.Core.Logic.{⊎_elim}
use Rattle.candidates.proofs.Searches.{unmet-next, ahead, only_end}
use Rattle.splits.proofs.Values.{after-symbol, rest_in}
use Rattle.candidates.proofs.Passing.{unmet-from, unmet-barren}
use Rattle.candidates.proofs.end_search.find_end.Goals as goal

pub returns-then-s : goal.returns-then-s
returns-then-s c =
    only_end c.requires.1.1 c.if-s.true

pub rest_cells-x-requires : goal.rest_cells-x-requires
rest_cells-x-requires c =
    let p = c.requires in
    (p.0.tables.shape, after-symbol p.0 p.1.0.0 p.1.0.1, p.0.tables.short, p.0.inside)

pub first_end-requires : goal.first_end-requires
first_end-requires c =
    let p = c.requires in
    omega (arith, after-symbol p.0 p.1.0.0 p.1.0.1, p.0.tables.shape.room)

pub next_end-m-requires : goal.next_end-m-requires
next_end-m-requires c =
    let r = c.rest_cells-x.ensures in
    (rest_in c.requires.0 r.0 r.1, ⊎_elim (λ e. omega (arith, e, c.requires.0.order)) (λ e. omega (arith, e.0)) c.first_end.ensures)

pub loop-s-init : goal.loop-s-init
loop-s-init c =
    let a = c.args in
    let pre = c.requires in
    unmet-barren a.code.now a.marks.now a.notes.now a.s.n.0 a.main.now a.p a.s.i.0 (λ l w e. omega (arith, w, e, pre.1.1.height))
    c.rest_cells-x.ensures.0
    c.next_end-m.ensures
    (unmet-from a.code.now a.marks.now a.notes.now a.s.n.0 a.main.now a.p a.s.i.0 a.s.j.0 c.first_end.result.0 pre.0.order
    (λ l w e. omega (arith, w, e, pre.1.1.height)) c.first_end.ensures)

pub split-requires : goal.split-requires
split-requires c =
    let pre = c.requires in
    let s = pre.1.1 in
    let l = ahead c.loop-s.invariant s.place s.after s.low in
    (pre.0, (pre.1.0, (c.loop-s.invariant.order, omega (arith, s.before))))

pub overflow_add-m : goal.overflow_add-m
overflow_add-m c =
    let pre = c.requires in
    let s = pre.1.1 in
    let l = ahead c.loop-s.invariant s.place s.after s.low in
    omega (arith, s.before, pre.0.inside, pre.0.tables.short)

pub next_end-m-requires-in-loop-s : goal.next_end-m-requires-in-loop-s
next_end-m-requires-in-loop-s c =
    let pre = c.requires in
    let s = pre.1.1 in
    let r = c.rest_cells-x.ensures in
    let l = ahead (unmet-next c.loop-s.invariant (λ low. omega (arith, c.split.ensures, c.loop-s-test.true))) s.place s.after s.low in
    (rest_in pre.0 r.0 r.1, omega (arith, s.before))

pub loop-s-smaller : goal.loop-s-smaller
loop-s-smaller c =
    let b = c.next_end-m-in-loop-s.ensures in
    omega (arith, b.from, b.to)

pub loop-s-preserved : goal.loop-s-preserved
loop-s-preserved c =
    let a = c.args in
    let pre = c.requires in
    let u = unmet-next c.loop-s.invariant (λ low. omega (arith, c.split.ensures, c.loop-s-test.true)) in
    unmet-barren a.code.now a.marks.now a.notes.now a.s.n.0 a.main.now a.p a.s.i.0 (λ l w e. omega (arith, w, e, pre.1.1.height))
    c.rest_cells-x.ensures.0
    c.next_end-m-in-loop-s.ensures u

pub returns : goal.returns
returns c =
    let s = c.requires.1.1 in
    let inv = c.loop-s.invariant in
    let l = ahead inv s.place s.after s.low in
    record { after = inv.order; before = omega (arith, s.before); low = omega (arith, c.split.ensures, c.loop-s-test.false); first = inv.none }
