use mathlib.Core.Path.{◌≡◌, subst}
use Prim.Native.Nat.{ℕ, ◌<◌, ◌≤◌}
use native.Mathlib.Omega.{arith}
use Rattle.candidates.proofs.AlongRules.{along-position, along-ends, along-few, trying, try-follows, try-next, try-done}
use Rattle.candidates.proofs.alternatives.find_alternative.Goals as goal

pub loop-s-init : goal.loop-s-init
loop-s-init c =
    let a = c.args in
    trying a.code.now a.s.size a.first a.marks.now a.notes.now a.s.n.0 a.main.now a.s.i.0 a.s.j.0 c.requires.1

pub alternative_height-requires : goal.alternative_height-requires
alternative_height-requires c =
    let a = c.args in
    (c.requires.0, along-position a.code.now a.s.size a.first c.loop-s.invariant.at)

pub next_alternative-q-requires : goal.next_alternative-q-requires
next_alternative-q-requires c =
    let a = c.args in
    along-ends a.code.now a.s.size a.first c.loop-s.invariant.at

pub overflow_sub-q : goal.overflow_sub-q
overflow_sub-q c =
    let a = c.args in
    let h = subst (λ (z : ℕ). a.k < z) c.alternative_height.ensures c.loop-s-test.true in
    let f : c.next_alternative-q.result ≡ 0 → ⊥ =
    try-follows a.code.now a.s.size a.first a.marks.now a.notes.now a.s.n.0 a.main.now a.s.i.0 a.s.j.0 c.loop-s.invariant h
    c.next_alternative-q.ensures in
    omega arith

pub overflow_add-a : goal.overflow_add-a
overflow_add-a c =
    let a = c.args in
    omega (arith, along-few a.code.now a.s.size a.first c.loop-s.invariant.at, c.requires.0.tables.shape.small)

pub loop-s-smaller : goal.loop-s-smaller
loop-s-smaller c =
    let a = c.args in
    omega (arith, along-few a.code.now a.s.size a.first c.loop-s.invariant.at, c.requires.0.tables.shape.small)

pub loop-s-preserved : goal.loop-s-preserved
loop-s-preserved c =
    let a = c.args in
    let h = subst (λ (z : ℕ). a.k < z) c.alternative_height.ensures c.loop-s-test.true in
    try-next a.code.now a.s.size a.first a.marks.now a.notes.now a.s.n.0 a.main.now a.s.i.0 a.s.j.0 c.loop-s.invariant h
    c.next_alternative-q.ensures

pub returns : goal.returns
returns c =
    let a = c.args in
    try-done a.code.now a.s.size a.first a.marks.now a.notes.now a.s.n.0 a.main.now a.s.i.0 a.s.j.0 c.loop-s.invariant
    (subst (λ (z : ℕ). z ≤ a.k) c.alternative_height.ensures c.loop-s-test.false)
