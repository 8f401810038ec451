-- Nothing is pending in a queue of zeros.
use mathlib.Core.Path.{◌≡◌}
use Prim.Native.Nat.{ℕ, ◌+◌, ◌≤◌}
use native.Mathlib.Omega.{arith}
use lib.ListN.{replicate, length-replicate}
use Rattle.chart.proofs.Users.{all-zero}
use Rattle.reach.proofs.Counts.{count_most}
use Rattle.queue.specs.Queue.{count_of, Queued}

pub no-count : count_of (replicate 1026 0) ≡ 0
no-count = all-zero 1026 1025

pub no-queue : (size : ℕ) → size ≤ 512 → Queued size (replicate 1026 0)
no-queue size small = record {
  small = small;
  long = length-replicate {A = ℕ} 1026 0;
  head = omega (arith, all-zero 1026 1024);
  each = λ k h. absurd (omega (arith, no-count));
  waits = λ e h p. absurd (p (all-zero 1026 (512 + e)));
  room = omega (arith, no-count, count_most 0 (replicate 1026 0) 512 512);
}
