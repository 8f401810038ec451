use Prim.Native.Nat.{ℕ}
use lib.ListN.{length-replicate}
use Rattle.fixpoint.specs.Fixed.{Fixed}
use Rattle.tells.proofs.Tells.{not_so}
use Rattle.fixpoint.proofs.Tests.{leasts-start, and-here, none-missed, all-hit}
use native.Mathlib.Omega.{arith}
use Rattle.fixpoint.proofs.stretch_fixed.Goals as goal

pub rule_heights-requires : goal.rule_heights-requires
rule_heights-requires c = (
  c.requires.0.shape,
  c.requires.1,
  c.requires.2,
  omega (arith, c.requires.0.shape.cells.few, length-replicate {A = ℕ} 512 4294967295),
  leasts-start _ _ _ _ _ _
      c.requires.0.shape.cells.few,
)

pub loop-p-init : goal.loop-p-init
loop-p-init c = (omega arith, λ q l. absurd (omega arith))

pub position_fixed-requires : goal.position_fixed-requires
position_fixed-requires c = (
  c.requires.0,
  record { inside = c.loop-p-test.true; order = c.requires.1; stop = c.requires.2 },
  omega
      (arith, c.requires.0.shape.cells.few, c.rule_heights.auto.heights, length-replicate {A = ℕ} 512 4294967295),
  c.rule_heights.ensures,
)

pub returns-then-not-position_fixed : goal.returns-then-not-position_fixed
returns-then-not-position_fixed c =
    none-missed (λ (q : ℕ). Fixed c.args.code.now c.args.fits.now c.args.at.size c.args.at.n c.args.main.now q c.args.at.i c.args.at.j)
    c.loop-p.p c.args.at.size c.loop-p-test.true
    (not_so c.position_fixed.ensures c.if-not-position_fixed.true)

pub loop-p-smaller : goal.loop-p-smaller
loop-p-smaller c =
    omega (arith, c.loop-p-test.true)

pub loop-p-preserved : goal.loop-p-preserved
loop-p-preserved c = (
  omega (arith, c.loop-p-test.true),
  and-here (λ (q : ℕ). Fixed c.args.code.now c.args.fits.now c.args.at.size c.args.at.n c.args.main.now q c.args.at.i c.args.at.j)
      c.loop-p.p c.loop-p.invariant.1 (c.position_fixed.ensures.yes c.if-not-position_fixed.false),
)

pub returns : goal.returns
returns c =
    all-hit (λ (q : ℕ). Fixed c.args.code.now c.args.fits.now c.args.at.size c.args.at.n c.args.main.now q c.args.at.i c.args.at.j)
    c.loop-p.p c.args.at.size (omega (arith, c.loop-p-test.false)) c.loop-p.invariant.1
