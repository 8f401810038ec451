use native.Mathlib.Omega.{arith}
use Rattle.reach.proofs.Queue.{lift-new, tail-below}
use Rattle.reach.proofs.work.lift.Goals as goal

pub push-requires : goal.push-requires
push-requires c = (c.requires.0.work-long, tail-below c.requires.0 c.requires.1 c.if-marks-x.false, omega (arith, c.requires.0.small, c.requires.1))

pub returns : goal.returns
returns c = rw c.push.ensures (lift-new c.requires.0 c.requires.1 c.if-marks-x.false)
