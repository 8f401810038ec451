use native.Mathlib.Omega.{arith}
use mathlib.Core.Path.{sym, ◌∙◌}
use Rattle.candidates.proofs.Searches.{unmet-next, ahead, tells-yes, tells-no, no_other}
use Rattle.splits.proofs.Values.{after-symbol, rest_in}
use Rattle.candidates.proofs.Passing.{unmet-from, unmet-barren}
use Rattle.candidates.proofs.end_search.other_end.Goals as goal

pub returns-then-m-s : goal.returns-then-m-s
returns-then-m-s c =
    tells-no (no_other c.if-s.true c.if-m-s.true)

pub rest_cells-x-requires : goal.rest_cells-x-requires
rest_cells-x-requires c =
    let p = c.requires in
    (p.0.tables.shape, after-symbol p.0 p.1.0 p.1.1, p.0.tables.short, p.0.inside)

pub first_end-l-requires : goal.first_end-l-requires
first_end-l-requires c =
    let p = c.requires in
    omega (arith, after-symbol p.0 p.1.0 p.1.1, p.0.tables.shape.room)

pub loop-l-init : goal.loop-l-init
loop-l-init c =
    let a = c.args in
    unmet-from a.code.now a.marks.now a.notes.now a.s.n.0 a.main.now a.p a.s.i.0 a.s.j.0 c.first_end-l.result.0 c.requires.0.order
    (λ l w. w.derives) c.first_end-l.ensures

pub next_end-here-requires : goal.next_end-here-requires
next_end-here-requires c =
    let r = c.rest_cells-x.ensures in
    (rest_in c.requires.0 r.0 r.1, c.loop-l-test.true)

pub overflow_add-l : goal.overflow_add-l
overflow_add-l c =
    let p = c.requires in
    omega (arith, c.next_end-here.ensures.to, p.0.inside, p.0.tables.short)

pub split-requires : goal.split-requires
split-requires c =
    let p = c.requires in
    let b = c.next_end-here.ensures in
    (p.0, (p.1, (omega (arith, c.loop-l.invariant.order, b.from), b.to)))

pub returns-then-split : goal.returns-then-split
returns-then-split c =
    let b = c.next_end-here.ensures in
    let s = c.split.ensures in
    tells-yes (record {
      place = c.next_end-here.result.0;
      after = omega (arith, c.loop-l.invariant.order, b.from);
      before = b.to;
      too = record { other = c.if-here-m.true; derives = λ e. c.if-split.true (s ∙ e) };
    })

pub loop-l-smaller-else-split : goal.loop-l-smaller-else-split
loop-l-smaller-else-split c =
    let b = c.next_end-here.ensures in
    omega (arith, b.from, b.to)

pub loop-l-preserved-else-split : goal.loop-l-preserved-else-split
loop-l-preserved-else-split c =
    let a = c.args in
    let s = c.split.ensures in
    unmet-next (unmet-barren a.code.now a.marks.now a.notes.now a.s.n.0 a.main.now a.p a.s.i.0 (λ l w. w.derives) c.rest_cells-x.ensures.0
    c.next_end-here.ensures c.loop-l.invariant) (λ w. w.derives (sym s ∙ c.if-split.false))

pub loop-l-smaller : goal.loop-l-smaller
loop-l-smaller c =
    let b = c.next_end-here.ensures in
    omega (arith, b.from, b.to)

pub loop-l-preserved : goal.loop-l-preserved
loop-l-preserved c =
    let a = c.args in
    unmet-next (unmet-barren a.code.now a.marks.now a.notes.now a.s.n.0 a.main.now a.p a.s.i.0 (λ l w. w.derives) c.rest_cells-x.ensures.0
    c.next_end-here.ensures c.loop-l.invariant) (λ w. w.other c.if-here-m.false)

pub returns : goal.returns
returns c =
    let inv = c.loop-l.invariant in
    tells-no (λ o. omega (arith, ahead inv o.place o.after o.too, o.before, c.loop-l-test.false))
