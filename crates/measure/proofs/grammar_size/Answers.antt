use native.Mathlib.Omega.{arith}
use Rattle.measure.proofs.Sizes.{sum-start, sum-steps, sum-next, sum_done}
use Rattle.measure.proofs.grammar_size.Goals as goal

pub loop-at-init : goal.loop-at-init
loop-at-init c = (λ g h. sum-start h, omega arith, omega arith)

pub offset_bounds-table-at : goal.offset_bounds-table-at
offset_bounds-table-at c = omega (arith, c.requires.small, c.requires.inside)

pub bounds-table-at : goal.bounds-table-at
bounds-table-at c = omega (arith, c.requires.inside, c.loop-at-test.true)

pub overflow_add-sum : goal.overflow_add-sum
overflow_add-sum c =
    omega (arith, c.requires.small, c.requires.inside, c.token_cost-sum.ensures.1, c.loop-at.invariant.1, c.loop-at-test.true)

pub token_end-at-requires : goal.token_end-at-requires
token_end-at-requires c =
    let p = c.requires in
    let s = sum-steps c.loop-at-test.true p.inside (c.loop-at.invariant.0 p.tree p.holds) in
    omega (arith, s.within, p.inside)

pub loop-at-smaller : goal.loop-at-smaller
loop-at-smaller c =
    let p = c.requires in
    let s = sum-steps c.loop-at-test.true p.inside (c.loop-at.invariant.0 p.tree p.holds) in
    omega (arith, c.token_end-at.ensures, s.forward, s.within)

pub loop-at-preserved : goal.loop-at-preserved
loop-at-preserved c =
    let p = c.requires in
    let s = sum-steps c.loop-at-test.true p.inside (c.loop-at.invariant.0 p.tree p.holds) in (
      λ g h. rw (c.token_end-at.ensures, c.token_cost-sum.ensures.0) (sum-next c.loop-at-test.true p.inside (c.loop-at.invariant.0 g h)),
      omega (arith, c.token_end-at.ensures, s.forward, c.token_cost-sum.ensures.1, c.loop-at.invariant.1),
      omega (arith, c.token_end-at.ensures, s.within),
    )

pub returns : goal.returns
returns c = λ g h. sum_done c.loop-at-test.false c.requires.inside (c.loop-at.invariant.0 g h)
