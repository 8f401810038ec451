use mathlib.Core.Path.{refl}
use Rattle.state.proofs.Cells.{equal}
use native.Mathlib.Omega.{arith}
use Rattle.state.proofs.finished.Goals as goal

pub bounds-state-2 : goal.bounds-state-2
bounds-state-2 c =
    omega (arith, c.requires)

pub returns : goal.returns
returns c = equal _ _ _ refl
