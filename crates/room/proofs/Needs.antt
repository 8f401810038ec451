-- The main table's need is a small number.
use Prim.Native.Nat.{ℕ, ◌+◌, ◌*◌, ◌/◌, ◌≤◌}
use native.Mathlib.Nat.{mul-le-mul}
use native.Mathlib.Omega.{arith}
use Rattle.text.specs.Limits.{most_size, record_chars}
use Rattle.chart.proofs.Cells.{most_pairs, most_stretches, most_cells}

pub pairs : (n : ℕ) → n ≤ record_chars → (n + 1) * (n + 2) ≤ most_pairs
pairs n h = omega (arith, mul-le-mul (let a : n + 1 ≤ record_chars + 1 = omega arith in a) (let b : n + 2 ≤ record_chars + 2 = omega arith in b))

pub whole : (s k : ℕ) → s ≤ most_size → k ≤ most_pairs → s * (k / 2) ≤ most_cells
whole s k h l = omega (arith, mul-le-mul h (let b : k / 2 ≤ most_stretches = omega arith in b))
