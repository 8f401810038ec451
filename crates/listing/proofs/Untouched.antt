-- Blocks of flags, and starts that are passed over.
use mathlib.Core.List.{List}
use mathlib.Core.Path.{◌≡◌, sym, subst}
use Prim.Native.Nat.{ℕ, ◌+◌, ◌-◌, ◌<◌, ◌≤◌}
use native.Mathlib.Decide.{ℕ_discrete, dec_lt}
use native.Mathlib.Omega.{arith}
use lib.ListN.{get_or}
use lib.Bits.{bit_or, or_add_and, and_le_l, and_le_r}
use Rattle.listing.specs.Starts.{Passed}

pub or_above : (a b : ℕ) → (a ≤ bit_or a b) × (b ≤ bit_or a b)
or_above a b = (omega (arith, or_add_and a b, and_le_r a b), omega (arith, or_add_and a b, and_le_l a b))

-- the first k flags from y on are at most v
pub record AtMost (C : List ℕ) (y k v : ℕ) : Type 0 where
  pub is : (m : ℕ) → m < k → get_or C (y + m) 0 ≤ v

pub at-most-none : {C : List ℕ} {y : ℕ} → AtMost C y 0 0
at-most-none = record { is = λ m h. absurd (omega arith) }

pub at-most-next : {C : List ℕ} {y k v w : ℕ} → AtMost C y k v → v ≤ w → get_or C (y + k) 0 ≤ w → AtMost C y (k + 1) w
at-most-next {C} {y} {k} {v} {w} a l h = record {
  is = λ m b. elim (ℕ_discrete m k) as (λ _. get_or C (y + m) 0 ≤ w) [
    | yes e ↦ subst (λ (x : ℕ). get_or C (y + x) 0 ≤ w) (sym e) h
    | no e ↦ omega (arith, a.is m (omega arith))
  ];
}

pub passed_none : {C : List ℕ} (i : ℕ) → Passed C i i
passed_none i = record { order = omega arith; flags = λ k l h. absurd (omega arith) }

-- a block more
pub passed-block : {C : List ℕ} {i from : ℕ} → 8 ≤ i → Passed C i from → ((k : ℕ) → k < 8 → get_or C (2563 + (i - 8) + k) 0 ≡ 0) → Passed C (i - 8) from
passed-block {C} {i} {from} w a z = record {
  order = omega (arith, a.order);
  flags = λ k l h. elim (dec_lt k i) as (λ _. get_or C (2563 + k) 0 ≡ 0) [
    | no g ↦ a.flags k (omega arith) h
    | yes g ↦ (let e : 2563 + (i - 8) + (k - (i - 8)) ≡ 2563 + k = omega arith in
        subst (λ (x : ℕ). get_or C x 0 ≡ 0) e (z (k - (i - 8)) (omega arith)))
  ];
}
