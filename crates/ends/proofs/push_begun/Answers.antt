use native.Mathlib.Omega.{arith}
use Rattle.ends.proofs.push_begun.Goals as goal

pub bounds-marks-m : goal.bounds-marks-m
bounds-marks-m c = omega (arith, c.if-rule-ge-RING.false, c.requires.0, c.requires.1)
