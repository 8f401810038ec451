-- Different numbers below n are at most n.
use mathlib.Core.Path.{◌≡◌, refl}
use mathlib.Core.Logic.{◌⊎◌, inl, inr}
use Prim.Native.Nat.{ℕ, zero, suc, ◌<◌, ◌≤◌}
use native.Mathlib.Decide.{ℕ_discrete}
use native.Mathlib.Omega.{arith}

-- v in the place of n
swap : ℕ → ℕ → ℕ → ℕ
swap n v x = elim (ℕ_discrete x n) [ yes _ ↦ v | no _ ↦ x ]

swap_is : (n v x : ℕ) → ((x ≡ n) × (swap n v x ≡ v)) ⊎ ((x ≡ n → ⊥) × (swap n v x ≡ x))
unfolding swap
swap_is n v x = go (ℕ_discrete x n) refl
  where
    go : (d : Dec (x ≡ n)) → ℕ_discrete x n ≡ d → ((x ≡ n) × (swap n v x ≡ v)) ⊎ ((x ≡ n → ⊥) × (swap n v x ≡ x))
    go (yes p) e = inl (p, rw (e, swap))
    go (no p) e = inr (p, rw (e, swap))

pub few : (n l : ℕ) (f : ℕ → ℕ) → ((a : ℕ) → a < l → f a < n) → ((a b : ℕ) → a < l → b < l → f a ≡ f b → a ≡ b) → l ≤ n
few zero zero f h i = omega arith
few zero (suc l) f h i = absurd (omega (arith, h 0 (omega arith)))
few (suc n) zero f h i = omega arith
few (suc n) (suc l) f h i = let w = few n l (λ a. swap n (f l) (f a)) inside apart in omega arith
  where
    inside : (a : ℕ) → a < l → swap n (f l) (f a) < n
    inside a q = elim (swap_is n (f l) (f a)) as (λ _. swap n (f l) (f a) < n) [
      | inl w ↦ elim (ℕ_discrete (f l) n) as (λ _. swap n (f l) (f a) < n) [
        | yes e ↦ absurd (let z : a ≡ l = i a l (omega arith) (omega arith) (omega arith) in omega arith)
        | no e ↦ omega (arith, h l (omega arith))
      ]
      | inr w ↦ omega (arith, h a (omega arith))
    ]

    apart : (a b : ℕ) → a < l → b < l → swap n (f l) (f a) ≡ swap n (f l) (f b) → a ≡ b
    apart a b p q e = elim (swap_is n (f l) (f a)) as (λ _. a ≡ b) [
      | inl v ↦ elim (swap_is n (f l) (f b)) as (λ _. a ≡ b) [
        | inl w ↦ i a b (omega arith) (omega arith) (omega arith)
        | inr w ↦ absurd (let z : l ≡ b = i l b (omega arith) (omega arith) (omega arith) in omega arith)
      ]
      | inr v ↦ elim (swap_is n (f l) (f b)) as (λ _. a ≡ b) [
        | inl w ↦ absurd (let z : a ≡ l = i a l (omega arith) (omega arith) (omega arith) in omega arith)
        | inr w ↦ i a b (omega arith) (omega arith) (omega arith)
      ]
    ]
