use Rattle.state.proofs.Cells.{counted}
use native.Mathlib.Omega.{arith}
use Rattle.state.proofs.count.Goals as goal

pub bounds-state-1 : goal.bounds-state-1
bounds-state-1 c =
    omega (arith, c.requires)

pub returns : goal.returns
returns c =
    counted _ _ _ c.requires
