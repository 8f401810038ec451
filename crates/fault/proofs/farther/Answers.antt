use native.Mathlib.Omega.{arith}
use Rattle.fault.proofs.Ranges.{ranged-free, ranged-greater}
use Rattle.fault.proofs.farther.Goals as goal

pub overflow_mul-i : goal.overflow_mul-i
overflow_mul-i c = omega (arith, c.requires.0.short, c.requires.0.on)

pub overflow_add-i : goal.overflow_add-i
overflow_add-i c =
    omega (arith, c.requires.0.short, c.requires.0.on, c.requires.1, c.requires.0.tokened.shape.small)

pub bounds-flags-i : goal.bounds-flags-i
bounds-flags-i c =
    omega (arith, c.requires.0.short, c.requires.0.on, c.requires.1, c.requires.0.tokened.shape.small, c.requires.2)

pub returns-then-flags-i-ge-FREE : goal.returns-then-flags-i-ge-FREE
returns-then-flags-i-ge-FREE c = ranged-free c.requires.0 c.requires.1 c.if-flags-i-ge-FREE.true

pub begun-requires : goal.begun-requires
begun-requires c = (c.requires.0, c.requires.1)

pub overflow_add-i-2 : goal.overflow_add-i-2
overflow_add-i-2 c = omega (arith, c.begun.ensures.1, c.requires.0.short)

pub returns : goal.returns
returns c = ranged-greater c.requires.0 c.requires.1 c.if-flags-i-ge-FREE.false c.begun.ensures.0 c.begun.ensures.1 c.max.ensures
