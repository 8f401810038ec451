use mathlib.Core.Path.{refl}
use Prim.Native.Nat.{◌-◌}
use native.Mathlib.Omega.{arith}
use Rattle.empties.proofs.Moves.{after, From, from_next}
use Rattle.empties.proofs.sweep.Goals as goal

pub loop-p-preserved : goal.loop-p-preserved
loop-p-preserved c =
    let a = c.args in
    let d = from_next a.code.now a.size c.loop-p.p a.notes.now in
    (omega (arith, c.loop-p.invariant.0), after (From a.code.now a.size (c.loop-p.p - 1)) d _ _ c.loop-p.invariant.1 c.lower_on-fell.ensures refl)
