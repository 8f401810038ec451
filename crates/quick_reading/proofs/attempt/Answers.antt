use native.Mathlib.Omega.{arith}
use Rattle.quick_reading.proofs.Finished.{tables-of, finished, stopped}
use Rattle.quick_reading.proofs.attempt.Goals as goal

pub fill-requires : goal.fill-requires
fill-requires c =
    let pre = c.requires in
    (tables-of pre.0 pre.1, pre.0.empties)

pub returns-then-not-fill : goal.returns-then-not-fill
returns-then-not-fill c =
    λ t. stopped c.fill.ensures.1 c.if-not-fill.true

pub walk-requires : goal.walk-requires
walk-requires c =
    let pre = c.requires in
    (finished pre.0 (omega (arith, pre.1, c.fill.auto.main)) (c.fill.ensures.0 c.if-not-fill.false), pre.2)

pub returns : goal.returns
unfolding finished
returns c =
    λ t. c.walk.ensures (finished t (omega (arith, c.requires.1, c.fill.auto.main)) (c.fill.ensures.0 c.if-not-fill.false))
