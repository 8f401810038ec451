use Prim.Native.Nat.{◌+◌, ◌*◌}
use Rattle.heights.specs.Filling.{total}
use Rattle.queue.specs.Queue.{count_of}
use Rattle.settle.proofs.Waking.{Settling}
use Rattle.settle.proofs.settle.Given as goal

abbrev pub invariant-loop-queue : goal.invariant-loop-queue
invariant-loop-queue l = Settling l.code l.marks l.notes l.s.size l.s.n.0 l.s.i.0 l.s.j.0 l.initial.main l.main l.queue

abbrev pub decreases-loop-queue : goal.decreases-loop-queue
decreases-loop-queue l = 2 * total l.main + count_of l.queue
