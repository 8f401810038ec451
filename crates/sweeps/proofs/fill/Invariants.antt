use mathlib.Core.Path.{◌≡◌}
use Prim.Native.Nat.{◌-◌, ◌*◌}
use lib.ListN.{length}
use Rattle.chart.specs.Heights.{stretches}
use Rattle.heights.specs.Table.{Shape}
use Rattle.heights.proofs.Small.{count}
use Rattle.sweeps.proofs.Ending.{Rising}
use Rattle.sweeps.proofs.fill.Given as goal

abbrev pub invariant-loop-height : goal.invariant-loop-height
invariant-loop-height l =
    (length l.main ≡ length l.initial.main) × ((sh : Shape l.code l.size l.n (length l.initial.main)) → Rising l.code l.fits l.size l.n (length l.initial.main) sh l.height l.initial.main l.main)

abbrev pub decreases-loop-height : goal.decreases-loop-height
decreases-loop-height l = l.size * stretches l.n - count l.main (l.size * stretches l.n)
