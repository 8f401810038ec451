use Prim.Native.Nat.{◌-◌}
use lib.ListN.{take}
use Rattle.static_errors.specs.Held.{asked_number}
use Rattle.static_errors.specs.Scan.{names_at, fails}
use Rattle.static_errors.proofs.Scans as law
use Rattle.static_errors.proofs.broken.Given as goal

abbrev pub invariant-loop-k : goal.invariant-loop-k
invariant-loop-k l = law.Reached l.table l.end l.k (law.Same (fails (asked_number l.rule) (names_at l.table (take l.n l.index))))

abbrev pub decreases-loop-k : goal.decreases-loop-k
decreases-loop-k l = l.end - l.k
