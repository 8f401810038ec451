use Prim.Native.Nat.{ℕ, ◌+◌}
use Rattle.fixpoint.specs.Fixed.{DotsFixed}
use Rattle.tells.proofs.Tells.{not_so}
use Rattle.fixpoint.proofs.Tests.{and-here, none-missed, all-hit}
use native.Mathlib.Omega.{arith}
use Rattle.fixpoint.proofs.column_fixed.Goals as goal

pub loop-i-init : goal.loop-i-init
loop-i-init c = (omega arith, λ q l. absurd (omega arith))

pub stretch_fixed-requires : goal.stretch_fixed-requires
stretch_fixed-requires c =
    (c.requires.0, omega (arith, c.loop-i-test.true), c.requires.1)

pub returns-then-not-stretch_fixed : goal.returns-then-not-stretch_fixed
returns-then-not-stretch_fixed c =
    none-missed (λ (i : ℕ). DotsFixed c.args.code.now c.args.fits.now c.args.size c.args.n c.args.main.now i c.args.j c.args.size)
    c.loop-i.i (c.args.j + 1) (omega (arith, c.loop-i-test.true))
    (not_so c.stretch_fixed.ensures c.if-not-stretch_fixed.true)

pub loop-i-smaller : goal.loop-i-smaller
loop-i-smaller c =
    omega (arith, c.loop-i-test.true)

pub loop-i-preserved : goal.loop-i-preserved
loop-i-preserved c = (
  omega (arith, c.loop-i-test.true),
  and-here (λ (i : ℕ). DotsFixed c.args.code.now c.args.fits.now c.args.size c.args.n c.args.main.now i c.args.j c.args.size)
      c.loop-i.i c.loop-i.invariant.1 (c.stretch_fixed.ensures.yes c.if-not-stretch_fixed.false),
)

pub returns : goal.returns
returns c =
    all-hit (λ (i : ℕ). DotsFixed c.args.code.now c.args.fits.now c.args.size c.args.n c.args.main.now i c.args.j c.args.size)
    c.loop-i.i (c.args.j + 1) (omega (arith, c.loop-i-test.false)) c.loop-i.invariant.1
