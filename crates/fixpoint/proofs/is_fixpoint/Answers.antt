use Prim.Native.Nat.{ℕ, ◌+◌}
use Rattle.fixpoint.specs.Fixed.{StartsFixed}
use Rattle.tells.proofs.Tells.{not_so, hit, miss}
use Rattle.fixpoint.proofs.Tests.{and-here, ends-fixed, fixed-ends}
use native.Mathlib.Omega.{arith}
use Rattle.fixpoint.proofs.is_fixpoint.Goals as goal

pub loop-j-init : goal.loop-j-init
loop-j-init c = (omega arith, λ q l. absurd (omega arith))

pub column_fixed-requires : goal.column_fixed-requires
column_fixed-requires c =
    (c.requires, omega (arith, c.loop-j-test.true))

pub returns-then-not-column_fixed : goal.returns-then-not-column_fixed
returns-then-not-column_fixed c =
    miss (λ a. not_so c.column_fixed.ensures c.if-not-column_fixed.true
    (fixed-ends _ _ _ _ _ a c.loop-j.j (omega (arith, c.loop-j-test.true))))

pub loop-j-smaller : goal.loop-j-smaller
loop-j-smaller c =
    omega (arith, c.loop-j-test.true)

pub loop-j-preserved : goal.loop-j-preserved
loop-j-preserved c = (
  omega (arith, c.loop-j-test.true),
  and-here (λ (j : ℕ). StartsFixed c.args.code.now c.args.fits.now c.args.size c.args.n c.args.main.now j (j + 1))
      c.loop-j.j c.loop-j.invariant.1 (c.column_fixed.ensures.yes c.if-not-column_fixed.false),
)

pub returns : goal.returns
returns c =
    hit (ends-fixed _ _ _ _ _ (λ l h. c.loop-j.invariant.1 l (omega (arith, c.loop-j-test.false))))
