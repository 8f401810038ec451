use mathlib.Core.Path.{◌≡◌}
use lib.ListN.{length}
use Rattle.queue.specs.Queue.{count_of, Queued}
use Rattle.sparse.specs.Column.{UnitsTo}
use Rattle.quick.specs.Quick.{Before}
use Rattle.quick.proofs.fill.Given as goal

abbrev pub invariant-loop-end : goal.invariant-loop-end
invariant-loop-end l =
    (length l.main ≡ length l.initial.main) × Before l.code l.marks l.notes l.size l.n.0 l.end l.main
    × (length l.column ≡ 3789) × UnitsTo l.code l.notes l.size l.column × Queued l.size l.queue × (count_of l.queue ≡ 0)
