use mathlib.Core.Path.{◌≡◌}
use Prim.Native.Nat.{◌≤◌}
use lib.ListN.{length}
use Rattle.queue.specs.Queue.{count_of, Queued}
use Rattle.quick.specs.Quick.{From}
use Rattle.quick.proofs.fill_column.Given as goal

abbrev pub invariant-loop-i : goal.invariant-loop-i
invariant-loop-i l =
    (l.i ≤ l.s.j.0) × (length l.main ≡ length l.initial.main) × From l.code l.marks l.notes l.s.size l.s.n.0 l.s.j.0 l.i l.main l.column
    × Queued l.s.size l.queue × (count_of l.queue ≡ 0)

abbrev pub decreases-loop-i : goal.decreases-loop-i
decreases-loop-i l = l.i
