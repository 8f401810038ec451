-- Places of cells.
use mathlib.Core.Path.{◌≡◌, refl, sym, ap}
use Prim.Native.Nat.{ℕ, zero, suc, ◌+◌, ◌*◌, ◌<◌, ◌≤◌}
use native.Mathlib.Nat.{mul-suc, suc-mul, mul-le-mul_right, div-eq_of_eq-mul_left}
use native.Mathlib.Decide.{dec_lt, ℕ_discrete}
use native.Mathlib.Numerals.{add-one}
use native.Mathlib.Omega.{arith}
use Rattle.chart.specs.Heights.{before, stretches, cell_at}
use mathlib.Core.List.{List}
use Rattle.chart.specs.Code.{next_kind, rule_at, owner_at}
use Rattle.chart.proofs.Cells.{before-next}
use Rattle.heights.specs.Table.{Room, Shape, Place}

-- 0 + 1 + .. + j
abbrev tri_of : ℕ → ℕ
tri_of zero = 0
tri_of (suc j) = tri_of j + suc j

tri-twice : (j : ℕ) → tri_of j * 2 ≡ j * suc j
tri-twice zero = refl
tri-twice (suc j) = omega (arith, tri-twice j, mul-suc (suc j) (suc j), suc-mul j (suc j))

before-tri : (j : ℕ) → before j ≡ tri_of j
before-tri j = div-eq_of_eq-mul_left (omega arith) (rw add-one (sym (tri-twice j)))

tri-le : (i j : ℕ) → i ≤ j → tri_of i ≤ tri_of j
tri-le i zero h = let e : i ≡ 0 = omega arith in rw e (omega arith)
tri-le i (suc j) h = elim (ℕ_discrete i (suc j)) as (λ _. tri_of i ≤ tri_of (suc j)) [
  | yes e ↦ rw e (omega arith)
  | no f ↦ omega (arith, tri-le i j (omega arith))
]

pub in-room : {size n len p i j : ℕ} → Room size n len → Place size n p i j → cell_at n p i j < len
in-room {size} {n} {len} {p} {i} {j} r h =
    omega (arith, mul-le-mul_right (stretches n) h.inside, suc-mul p (stretches n), before-next j i n h.order h.stop, r.room)

pub at_room : {size n len p i j x : ℕ} → Room size n len → Place size n p i j → x ≡ cell_at n p i j → x < len
at_room r h e = omega (arith, in-room r h)

-- what a position names, on a part of its stretch
module _ {c : List ℕ} {size n len p i j : ℕ} (s : Shape c size n len) (h : Place size n p i j) where
  pub next_place : (m : ℕ) → (next_kind c p ≡ 0 → ⊥) → i ≤ m → m ≤ j → Place size n (p + 1) m j
  next_place m k a b = record { inside = s.nexts p h.inside k; order = b; stop = h.stop }

  pub rule-place : (m : ℕ) → next_kind c p ≡ 2 → i ≤ m → m ≤ j → Place size n (rule_at c p) i m
  rule-place m k a b = record { inside = s.names p h.inside k; order = a; stop = omega (arith, h.stop) }

  pub owner-place : (e : ℕ) → owner_at c p ≡ e + 1 → Place size n e i j
  owner-place e o = record { inside = s.owners p e h.inside o; order = h.order; stop = h.stop }

tri-inj : (i j k l : ℕ) → i ≤ j → k ≤ l → tri_of j + i ≡ tri_of l + k → j ≡ l
tri-inj i j k l h h' e = elim (ℕ_discrete j l) as (λ _. j ≡ l) [
  | yes q ↦ q
  | no q ↦ (elim (dec_lt j l) as (λ _. j ≡ l) [
    | yes s ↦ absurd (omega (arith, tri-le (suc j) l s))
    | no s ↦ absurd (omega (arith, tri-le (suc l) j (omega arith)))
  ])
]

block-inj : (s p q p' q' : ℕ) → q < s → q' < s → p * s + q ≡ p' * s + q' → p ≡ p'
block-inj s p q p' q' h h' e = elim (ℕ_discrete p p') as (λ _. p ≡ p') [
  | yes w ↦ w
  | no w ↦ (elim (dec_lt p p') as (λ _. p ≡ p') [
    | yes l ↦ absurd (omega (arith, mul-le-mul_right s l, suc-mul p s))
    | no l ↦ (let l' : p' < p = omega arith in absurd (omega (arith, mul-le-mul_right s l', suc-mul p' s)))
  ])
]

pub record SameCell (p i j q k l : ℕ) : Type 0 where
  pub same-p : p ≡ q
  pub same-i : i ≡ k
  pub same-j : j ≡ l

-- two cells at one place are one cell
pub cell-inj : (n p i j q k l : ℕ) → i ≤ j → j ≤ n → k ≤ l → l ≤ n → cell_at n p i j ≡ cell_at n q k l → SameCell p i j q k l
cell-inj n p i j q k l hi hj hk hl e =
    let ep = block-inj (stretches n) p (before j + i) q (before l + k) (before-next j i n hi hj) (before-next l k n hk hl) (omega arith) in
    let em : p * stretches n ≡ q * stretches n = ap (λ (z : ℕ). z * stretches n) ep in
    let ej = tri-inj i j k l hi hk (omega (arith, before-tri j, before-tri l)) in
    let et : before j ≡ before l = ap before ej in
    record { same-p = ep; same-i = omega arith; same-j = ej }
