use native.Mathlib.Omega.{arith}
use Rattle.productive.proofs.Visits.{visit-inside, visit-kept, use-before, visit-next, visits-end}
use Rattle.productive.proofs.visit.Goals as goal

pub bounds-marks-x : goal.bounds-marks-x
bounds-marks-x c =
    omega (arith, visit-inside c.loop-x.invariant c.loop-x-test.true, c.requires.kept.shape.small, c.loop-x.invariant.visited.moved.kept.marks-long)

pub raise-requires : goal.raise-requires
raise-requires c =
    (visit-kept c.loop-x.invariant c.loop-x-test.true, visit-inside c.loop-x.invariant c.loop-x-test.true)

pub loop-x-smaller : goal.loop-x-smaller
loop-x-smaller c =
    omega (arith, c.wide-x-in-loop-x.ensures, (use-before c.loop-x.invariant c.loop-x-test.true c.requires.users).below, c.loop-x-test.true)

pub loop-x-preserved : goal.loop-x-preserved
loop-x-preserved c =
    rw c.wide-x-in-loop-x.ensures
    (visit-next c.loop-x.invariant c.loop-x-test.true c.raise.ensures
    (use-before c.loop-x.invariant c.loop-x-test.true c.requires.users))

pub returns : goal.returns
returns c = visits-end c.loop-x.invariant (λ z. omega (arith, c.loop-x-test.false))
