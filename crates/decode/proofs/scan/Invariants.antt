use Prim.Native.Nat.{◌-◌}
use lib.ListN.{length}
use Rattle.decode.specs.Scan.{test_of}
use Rattle.decode.proofs.Bytes as bytes
use Rattle.decode.proofs.Scans as law
use Rattle.decode.proofs.scan.Given as goal

abbrev pub invariant-loop-s : goal.invariant-loop-s
invariant-loop-s l = bytes.In l.bytes l.i l.next.0 l.s

abbrev pub decreases-loop-s : goal.decreases-loop-s
decreases-loop-s l = l.s.more

abbrev pub invariant-loop-at : goal.invariant-loop-at
invariant-loop-at l = law.At (test_of l.pattern) l.bytes l.initial.at.0 l.initial.out l.out l.at.0 l.n.0

abbrev pub decreases-loop-at : goal.decreases-loop-at
decreases-loop-at l = length l.bytes - l.at.0
