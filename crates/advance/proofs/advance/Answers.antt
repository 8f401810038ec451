use Rattle.advance.proofs.Turns.{idled, went_on, closed}
use native.Mathlib.Omega.{arith}
use Rattle.advance.proofs.advance.Goals as goal

pub returns-then-not-sweep : goal.returns-then-not-sweep
returns-then-not-sweep c =
    λ up. idled c.if-not-sweep.true (c.sweep.ensures (omega (arith, c.requires.1, c.requires.2)) up)

pub returns-then-done-most : goal.returns-then-done-most
returns-then-done-most c =
    λ up. went_on c.if-not-sweep.false c.if-done-most.true (c.sweep.ensures (omega (arith, c.requires.1, c.requires.2)) up)

pub returns : goal.returns
returns c =
    λ up. (let s = c.sweep.ensures (omega (arith, c.requires.1, c.requires.2)) up in
    closed c.if-not-sweep.false (omega (arith, c.if-done-most.false)) s (c.sweep-2.ensures (omega (arith, c.requires.1, c.requires.2)) s.upto))
