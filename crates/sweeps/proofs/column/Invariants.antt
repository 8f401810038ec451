use mathlib.Core.Path.{◌≡◌}
use Prim.Native.Nat.{◌+◌, ◌≤◌}
use lib.ListN.{length}
use Rattle.heights.specs.Filling.{EndsAt}
use Rattle.sweeps.specs.Layers.{Running, Passed}
use Rattle.sweeps.proofs.Passes.{FromStart}
use Rattle.sweeps.proofs.column.Given as goal

abbrev pub invariant-loop-i : goal.invariant-loop-i
invariant-loop-i l =
    (l.i ≤ l.j + 1) × (length l.main ≡ length l.initial.main)
    × (Running l.code l.fits l.layer.size l.layer.n l.layer.height l.initial.main
    → Passed l.code l.fits l.layer.size l.layer.n l.layer.height (EndsAt l.j) (FromStart l.code l.fits l.layer.size l.layer.n l.layer.height l.j l.i) l.initial.main l.added l.main)
