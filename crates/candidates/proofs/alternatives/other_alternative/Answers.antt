use native.Mathlib.Omega.{arith}
use borrow.Author.Tests.{eqb-false, ne_eqb}
use Rattle.candidates.proofs.Searches.{untold}
use Rattle.candidates.proofs.AlongRules.{along-position, along-ends, along-few, passing, pass-next, pass-yes, pass-no}
use Rattle.candidates.proofs.alternatives.other_alternative.Goals as goal

pub loop-s-init : goal.loop-s-init
loop-s-init c =
    let a = c.args in
    passing a.code.now a.s.size a.first a.marks.now a.notes.now a.s.n.0 a.main.now a.s.i.0 a.s.j.0 c.requires.1

pub another_derives-requires : goal.another_derives-requires
another_derives-requires c =
    let a = c.args in
    (c.requires.0, along-position a.code.now a.s.size a.first c.loop-s.invariant.at)

pub returns-then-another_derives : goal.returns-then-another_derives
returns-then-another_derives c =
    let a = c.args in
    let too = c.another_derives.ensures.holds c.if-another_derives.true in
    pass-yes a.code.now a.s.size a.first a.marks.now a.notes.now a.s.n.0 a.main.now a.s.i.0 a.s.j.0 c.loop-s.invariant
    (eqb-false c.loop-s.a a.number too.0, too.1)

pub next_alternative-next-requires : goal.next_alternative-next-requires
next_alternative-next-requires c =
    let a = c.args in
    along-ends a.code.now a.s.size a.first c.loop-s.invariant.at

pub returns-then-next-eq0 : goal.returns-then-next-eq0
returns-then-next-eq0 c =
    let a = c.args in
    let no = untold c.another_derives.ensures c.if-another_derives.false in
    pass-no a.code.now a.s.size a.first a.marks.now a.notes.now a.s.n.0 a.main.now a.s.i.0 a.s.j.0 c.loop-s.invariant
    (λ w. no (ne_eqb c.loop-s.a a.number w.0, w.1)) c.next_alternative-next.ensures c.if-next-eq0.true

pub overflow_sub-q : goal.overflow_sub-q
overflow_sub-q c = omega (arith, c.if-next-eq0.false)

pub overflow_add-a : goal.overflow_add-a
overflow_add-a c =
    let a = c.args in
    omega (arith, along-few a.code.now a.s.size a.first c.loop-s.invariant.at, c.requires.0.tables.shape.small)

pub loop-s-smaller : goal.loop-s-smaller
loop-s-smaller c =
    let a = c.args in
    omega (arith, along-few a.code.now a.s.size a.first c.loop-s.invariant.at, c.requires.0.tables.shape.small)

pub loop-s-preserved : goal.loop-s-preserved
loop-s-preserved c =
    let a = c.args in
    let no = untold c.another_derives.ensures c.if-another_derives.false in
    pass-next a.code.now a.s.size a.first a.marks.now a.notes.now a.s.n.0 a.main.now a.s.i.0 a.s.j.0 c.loop-s.invariant
    (λ w. no (ne_eqb c.loop-s.a a.number w.0, w.1)) c.next_alternative-next.ensures c.if-next-eq0.false
