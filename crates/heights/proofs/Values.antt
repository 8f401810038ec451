-- The value of a position, by cases.
use mathlib.Core.Path.{◌≡◌, ap, ◌∙◌}
use mathlib.Core.List.{List}
use Prim.Native.Nat.{ℕ, ◌+◌, ◌<◌, ◌≤◌, max}
use native.Mathlib.Decide.{dec_lt, ℕ_discrete}
use native.Mathlib.Omega.{arith}
use lib.ListN.{get_or}
use borrow.Author.Tests.{lt-ltb, le-ltb, eq-eqb, ne_eqb}
use Rattle.chart.specs.Code.{next_kind, rule_at}
use Rattle.chart.specs.Heights.{cell_at, none}
use Rattle.heights.specs.Table.{cell_of, value_of, up_of, split_of}

pub data Value (c t : List ℕ) (n q i j v : ℕ) : Type 0 where
  v-end : next_kind c q ≡ 0 → i ≡ j → v ≡ 0 → Value c t n q i j v
  v-none : none ≤ v → Value c t n q i j v
  v-cell : (next_kind c q ≡ 0 → ⊥) → v ≡ cell_of n t q i j → Value c t n q i j v

module _ (c t : List ℕ) (n q i j : ℕ) where
  pub value_cell : (next_kind c q ≡ 0 → ⊥) → value_of c t n q i j ≡ cell_of n t q i j
  value_cell h = simp (ne_eqb (next_kind c q) 0 h)

  pub value-end : next_kind c q ≡ 0 → i ≡ j → value_of c t n q i j ≡ 0
  value-end h e = simp (eq-eqb (next_kind c q) 0 h, eq-eqb i j e)

  pub value-gap : next_kind c q ≡ 0 → (i ≡ j → ⊥) → value_of c t n q i j ≡ none
  value-gap h e = simp (eq-eqb (next_kind c q) 0 h, ne_eqb i j e)

  pub value-is : Value c t n q i j (value_of c t n q i j)
  value-is = elim (ℕ_discrete (next_kind c q) 0) as (λ _. Value c t n q i j (value_of c t n q i j)) [
    | no h ↦ v-cell h (value_cell h)
    | yes h ↦ (elim (ℕ_discrete i j) as (λ _. Value c t n q i j (value_of c t n q i j)) [
      | yes e ↦ v-end h e (value-end h e)
      | no e ↦ v-none (omega (arith, value-gap h e))
    ])
  ]

pub up_is : (h : ℕ) → h < none → up_of h ≡ h + 1
up_is h l = simp (lt-ltb h none l)

pub up_none : (h : ℕ) → none ≤ h → up_of h ≡ none
up_none h l = simp (le-ltb h none l)

pub up-low : (h : ℕ) → up_of h < none → h < none
up-low h l = elim (dec_lt h none) as (λ _. h < none) [ yes k ↦ k | no k ↦ absurd (omega (arith, up_none h (omega arith))) ]

pub up-most : (h : ℕ) → up_of h ≤ none
up-most h = elim (dec_lt h none) as (λ _. up_of h ≤ none) [ yes k ↦ omega (arith, up_is h k) | no k ↦ omega (arith, up_none h (omega arith)) ]

pub up_above : (h : ℕ) → h ≤ none → h ≤ up_of h
up_above h l = elim (dec_lt h none) as (λ _. h ≤ up_of h) [ yes k ↦ omega (arith, up_is h k) | no k ↦ omega (arith, up_none h (omega arith)) ]

-- what `split` computes
module _ (c t : List ℕ) (n p i j m b : ℕ) (eb : b ≡ value_of c t n (p + 1) m j) where
  pub split-none : b ≡ none → none ≡ split_of c t n p i j m
  split-none e = omega (arith, up-most (cell_of n t (rule_at c p) i m))

  pub split-some : (a x r : ℕ) → x ≡ cell_at n (rule_at c p) i m → a ≡ up_of (get_or t x 0) → r ≡ max a b → r ≡ split_of c t n p i j m
  split-some a x r ex ea er = let is = ea ∙ ap (λ (z : ℕ). up_of (get_or t z 0)) ex in omega arith
