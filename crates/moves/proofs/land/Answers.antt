use native.Mathlib.Omega.{arith}
use mathlib.Core.Bool.{true≢false}
use mathlib.Core.Path.{sym, ◌∙◌}
use Rattle.bits.proofs.Laws.{adds_none, adds-as}
use Rattle.moves.proofs.land.Goals as goal

pub returns-then-not-on : goal.returns-then-not-on
returns-then-not-on c = adds_none (λ z h. true≢false (sym h.0 ∙ c.if-not-on.true))

pub returns-then-n-width : goal.returns-then-n-width
returns-then-n-width c = adds_none (λ z h. omega (arith, h.1.within, c.if-n-width.true))

pub returns-then-n-width-2 : goal.returns-then-n-width-2
returns-then-n-width-2 c = adds_none (λ z h. omega (arith, h.1.within, c.if-n-width-2.true, c.if-n-width.false))

pub bounds-marks-x : goal.bounds-marks-x
bounds-marks-x c =
    omega (arith, c.if-n-width-2.false, c.if-n-width.false, c.requires.0.short, c.requires.0.small, c.requires.0.long)

pub returns-then-marks-x-lt-FITS : goal.returns-then-marks-x-lt-FITS
returns-then-marks-x-lt-FITS c = adds_none (λ z h. omega (arith, h.1.fits, c.if-marks-x-lt-FITS.true))

pub put-requires : goal.put-requires
put-requires c =
    omega (arith, c.if-n-width-2.false, c.if-n-width.false, c.requires.0.short)

pub returns : goal.returns
returns c =
    adds-as _ c.put.ensures
    (λ z e. (c.if-not-on.false, record { fits = c.if-marks-x-lt-FITS.false; within = omega (arith, c.if-n-width-2.false, c.if-n-width.false); is = e })) (λ z h. h.1.is)
