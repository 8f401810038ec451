use native.Mathlib.Omega.{arith}
use Rattle.reach.proofs.Queue.{gather_none, gather-new}
use Rattle.reach.proofs.work.gather.Goals as goal

pub returns-then-marks-i : goal.returns-then-marks-i
returns-then-marks-i c = gather_none c.requires.0 c.requires.1 c.if-marks-i.true

pub returns : goal.returns
returns c = rw c.push.ensures (gather-new c.requires.0 c.requires.1 (omega (arith, c.if-marks-i.false)))
