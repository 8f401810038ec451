use mathlib.Core.Path.{◌≡◌}
use Prim.Native.Nat.{◌≤◌}
use lib.ListN.{length}
use Rattle.heights.specs.Filling.{Only}
use Rattle.sweeps.specs.Layers.{Running, Passed}
use Rattle.sweeps.proofs.Passes.{FromDot}
use Rattle.sweeps.proofs.stretch.Given as goal

abbrev pub invariant-loop-p : goal.invariant-loop-p
invariant-loop-p l =
    (l.p ≤ l.layer.size) × (length l.main ≡ length l.initial.main)
    × (Running l.code l.fits l.layer.size l.layer.n l.layer.height l.initial.main
    → Passed l.code l.fits l.layer.size l.layer.n l.layer.height (Only l.i l.j) (FromDot l.code l.fits l.layer.size l.layer.n l.layer.height l.i l.j l.p) l.initial.main l.added l.main)
