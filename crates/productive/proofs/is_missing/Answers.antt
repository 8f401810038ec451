use native.Mathlib.Omega.{arith}
use Rattle.productive.proofs.Scan.{owner-below}
use Rattle.productive.proofs.is_missing.Goals as goal

pub bounds-missing-wide : goal.bounds-missing-wide
bounds-missing-wide c =
    omega (arith, c.wide.ensures, owner-below c.requires.0.shape c.requires.1 c.if-begins-ne0.true, c.requires.0.long)
