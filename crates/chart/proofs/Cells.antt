-- Places of cells.
use mathlib.Core.Path.{◌≡◌}
use Prim.Native.Nat.{ℕ, ◌+◌, ◌*◌, ◌/◌, ◌<◌, ◌≤◌}
use native.Mathlib.Nat.{mul-le-mul, add-mul, mul-add}
use native.Mathlib.Omega.{arith}
use Rattle.text.specs.Limits.{most_size, record_chars}
use mir.Syntax.{w64}
use mir.Val.{Fits}
use Rattle.chart.specs.Heights.{before, stretches, cell_at}

-- (j + 1) (j + 2) is j (j + 1) and twice j + 1
next-twice : (j : ℕ) → (j + 1) * (j + 2) ≡ j * (j + 1) + 2 * (j + 1)
next-twice j = omega (arith, add-mul j 1 (j + 2), mul-add j j 2, mul-add j j 1)

-- the stretches that end at j
pub before-next : (j i n : ℕ) → i ≤ j → j ≤ n → before j + i < stretches n
before-next j i n h l =
    let e = next-twice j in
    let q : (j + 1) * (j + 2) ≤ (n + 1) * (n + 2) = mul-le-mul {n₁ = j + 1} {m₁ = j + 2} {n₂ = n + 1} {m₂ = n + 2} (omega arith) (omega arith) in
    omega arith

pub cell-lt : (n p i j len : ℕ) → i ≤ j → j ≤ n → (p + 1) * stretches n ≤ len → cell_at n p i j < len
cell-lt n p i j len h l room = omega (arith, before-next j i n h l, add-mul p 1 (stretches n))

-- at the limits: twice the stretches of a record, the stretches, the cells
abbrev pub most_pairs : ℕ
most_pairs = (record_chars + 1) * (record_chars + 2)

abbrev pub most_stretches : ℕ
most_stretches = most_pairs / 2

abbrev pub most_cells : ℕ
most_cells = most_size * most_stretches

-- what `cell` computes fits
pub square-fits : (a b : ℕ) → a ≤ record_chars + 1 → b ≤ record_chars + 2 → Fits w64 (a * b)
square-fits a b ha hb =
    let k : a * b ≤ most_pairs = mul-le-mul {n₁ = a} {m₁ = b} {n₂ = record_chars + 1} {m₂ = record_chars + 2} ha hb in
    record { fits = omega arith }

small : (a b : ℕ) → a ≤ record_chars + 1 → b ≤ record_chars + 2 → a * b / 2 ≤ most_stretches
small a b ha hb =
    let k : a * b ≤ most_pairs = mul-le-mul {n₁ = a} {m₁ = b} {n₂ = record_chars + 1} {m₂ = record_chars + 2} ha hb in
    omega arith

pub stretches-small : (n : ℕ) → n ≤ record_chars → stretches n ≤ most_stretches
stretches-small n h = small (n + 1) (n + 2) (omega arith) (omega arith)

pub rows-small : (p n : ℕ) → p ≤ most_size → n ≤ record_chars → p * stretches n ≤ most_cells
rows-small p n hp hn = mul-le-mul {n₁ = p} {m₁ = stretches n} {n₂ = most_size} {m₂ = most_stretches} hp (stretches-small n hn)

pub rows_fit : (p n : ℕ) → p ≤ most_size → n ≤ record_chars → Fits w64 (p * stretches n)
rows_fit p n hp hn = record { fits = omega (arith, rows-small p n hp hn) }

pub before_small : (j : ℕ) → j ≤ record_chars → before j ≤ most_stretches
before_small j h = small j (j + 1) (omega arith) (omega arith)
