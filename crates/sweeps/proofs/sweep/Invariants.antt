use mathlib.Core.Path.{◌≡◌}
use Prim.Native.Nat.{◌+◌, ◌≤◌}
use lib.ListN.{length}
use Rattle.heights.specs.Filling.{Any}
use Rattle.sweeps.specs.Layers.{Running, Passed}
use Rattle.sweeps.proofs.Passes.{BeforeEnd}
use Rattle.sweeps.proofs.sweep.Given as goal

abbrev pub invariant-loop-j : goal.invariant-loop-j
invariant-loop-j l =
    (l.j ≤ l.n + 1) × (length l.main ≡ length l.initial.main)
    × (Running l.code l.fits l.size l.n l.height l.initial.main → Passed l.code l.fits l.size l.n l.height Any (BeforeEnd l.code l.fits l.size l.n l.height l.j) l.initial.main l.added l.main)
