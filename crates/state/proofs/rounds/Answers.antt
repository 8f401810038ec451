use mathlib.Core.Path.{refl}
use native.Mathlib.Omega.{arith}
use Rattle.state.proofs.rounds.Goals as goal

pub bounds-state-1 : goal.bounds-state-1
bounds-state-1 c =
    omega (arith, c.requires)

pub returns : goal.returns
returns c = refl
