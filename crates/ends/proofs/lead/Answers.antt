use native.Mathlib.Omega.{arith}
use Rattle.ends.proofs.Terminals.{led-start, led-next, led-nowhere}
use Rattle.ends.proofs.lead.Goals as goal

pub overflow_add-past : goal.overflow_add-past
overflow_add-past c =
    omega (arith, c.requires.short)

pub loop-p-init : goal.loop-p-init
loop-p-init c =
    (omega (arith, c.requires.on), led-start c.requires)

pub bounds-code-p : goal.bounds-code-p
bounds-code-p c =
    omega (arith, c.loop-p.invariant.1.inside, c.requires.shape.room)

pub overflow_mul-x : goal.overflow_mul-x
overflow_mul-x c =
    omega (arith, c.loop-p.invariant.0, c.requires.short)

pub overflow_add-x : goal.overflow_add-x
overflow_add-x c =
    omega (arith, c.loop-p.invariant.0, c.loop-p.invariant.1.inside, c.requires.short, c.requires.shape.small)

pub bounds-marks-x : goal.bounds-marks-x
bounds-marks-x c =
    omega (arith, c.loop-p.invariant.0, c.loop-p.invariant.1.inside, c.requires.short, c.requires.shape.small, c.requires.marks-long)

pub returns-then-marks-x-lt-FITS : goal.returns-then-marks-x-lt-FITS
returns-then-marks-x-lt-FITS c =
    led-nowhere c.loop-p.invariant.1 c.loop-p-test.true (λ f _. omega (arith, f, c.if-marks-x-lt-FITS.true)) (omega arith)

pub bounds-code-p-in-loop-p : goal.bounds-code-p-in-loop-p
bounds-code-p-in-loop-p c =
    omega (arith, c.loop-p.invariant.1.inside, c.requires.shape.room)

pub overflow_sub-s : goal.overflow_sub-s
overflow_sub-s c =
    omega (arith, c.loop-p.invariant.0)

pub returns-then-s-x : goal.returns-then-s-x
returns-then-s-x c =
    led-nowhere c.loop-p.invariant.1 c.loop-p-test.true (λ _ b. omega (arith, b, c.wide-width.ensures, c.if-s-x.true)) (omega arith)

pub overflow_add-x-in-loop-p : goal.overflow_add-x-in-loop-p
overflow_add-x-in-loop-p c =
    omega (arith, c.loop-p.invariant.0, c.if-s-x.false, c.requires.short)

pub overflow_add-p-in-loop-p : goal.overflow_add-p-in-loop-p
overflow_add-p-in-loop-p c =
    omega (arith, c.loop-p.invariant.1.inside, c.requires.shape.small)

pub loop-p-smaller : goal.loop-p-smaller
loop-p-smaller c =
    omega (arith, c.loop-p.invariant.1.inside)

pub loop-p-preserved : goal.loop-p-preserved
loop-p-preserved c = (
  omega (arith, c.loop-p.invariant.0, c.if-s-x.false),
  led-next c.requires.shape c.loop-p.invariant.0 c.loop-p.invariant.1 c.loop-p-test.true c.if-marks-x-lt-FITS.false
      (omega (arith, c.wide-width.ensures)) (omega (arith, c.loop-p.invariant.0, c.if-s-x.false)),
)

pub returns : goal.returns
returns c = c.loop-p.invariant.1
