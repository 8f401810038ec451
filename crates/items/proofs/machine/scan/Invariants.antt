use mathlib.Core.Path.{◌≡◌}
use Prim.Native.Nat.{◌≤◌, ◌-◌}
use lib.ListN.{length, take}
use Rattle.tree.specs.Tree.{Grammar}
use Rattle.items.specs.Scanned.{Readable}
use Rattle.items.proofs.Scans.{Going, run_of}
use Rattle.items.proofs.machine.scan.Given as goal

abbrev pub invariant-loop-at : goal.invariant-loop-at
invariant-loop-at l = ((g : Grammar) (r : Readable l.initial.table l.end g) (size : length l.initial.table ≡ 16384) (h : l.end ≤ 12288)
    → Going (take 12288 l.initial.table) l.table l.end l.at l.s (run_of size h r).after) × (length l.table ≡ 16384)

abbrev pub decreases-loop-at : goal.decreases-loop-at
decreases-loop-at l = l.end - l.at
