-- Steps: what they leave as it was, and that they only lower.
use mathlib.Core.Path.{◌≡◌, refl, sym, ap, subst, ◌∙◌}
use mathlib.Core.List.{List, [], ◌∷◌}
use Prim.Native.Nat.{ℕ, zero, suc, ◌+◌, ◌<◌, ◌≤◌}
use native.Mathlib.Decide.{dec_lt, ℕ_discrete}
use native.Mathlib.Omega.{arith}
use lib.ListN.{length, get_or, set, length-set, get_or-eq_default}
use lib.Seq.{get_or-set_same, get_or-set_other}
use lib.Dec.{eqb}
use Rattle.text.specs.Lists.{pick}
use Rattle.chart.specs.Code.{next_kind, rule_at}
use Rattle.chart.specs.Heights.{cell_at, none}
use Rattle.heights.specs.Table.{cell_of, value_of, up_of, split_of}
use Rattle.heights.specs.Filling.{Steps, stay, step, total}
use Rattle.heights.proofs.Cells.{cell-inj}

pub sum-set : (t : List ℕ) (x v : ℕ) → v < get_or t x 0 → total (set t x v) < total t
sum-set [] x v h = absurd (omega arith)
sum-set (y ∷ t) zero v h = omega arith
sum-set (y ∷ t) (suc x) v h = omega (arith, sum-set t x v h)

pub in-range : (t : List ℕ) (x v : ℕ) → v < get_or t x 0 → x < length t
in-range t x v h = elim (dec_lt x (length t)) as (λ _. x < length t) [
  | yes l ↦ l
  | no l ↦ absurd (omega (arith, get_or-eq_default t 0 {n = x} (omega arith)))
]

-- a cell after another, or the same, was lowered
pub set-le : (t : List ℕ) (x y v : ℕ) → v < get_or t x 0 → get_or (set t x v) y 0 ≤ get_or t y 0
set-le t x y v h = elim (ℕ_discrete y x) as (λ _. get_or (set t x v) y 0 ≤ get_or t y 0) [
  | yes e ↦ rw e (omega (arith, get_or-set_same t x v 0 (in-range t x v h)))
  | no e ↦ omega (arith, get_or-set_other t x y v 0 e)
]

module _ (c f : List ℕ) (size n : ℕ) where
  pub steps-join : {A : ℕ → ℕ → Type 0} {t₀ t₁ t₂ : List ℕ} → Steps c f size n A t₀ t₁ → Steps c f size n A t₁ t₂ → Steps c f size n A t₀ t₂
  steps-join a stay = a
  steps-join a (step p i j v s ha hp hi hj d l) = step p i j v (steps-join a s) ha hp hi hj d l

  pub steps-widen : {A B : ℕ → ℕ → Type 0} {t₀ t : List ℕ} → ((i j : ℕ) → A i j → B i j) → Steps c f size n A t₀ t → Steps c f size n B t₀ t
  steps-widen w stay = stay
  steps-widen w (step p i j v s ha hp hi hj d l) = step p i j v (steps-widen w s) (w i j ha) hp hi hj d l

  pub steps-length : {A : ℕ → ℕ → Type 0} {t₀ t : List ℕ} → Steps c f size n A t₀ t → length t ≡ length t₀
  steps-length stay = refl
  steps-length (step {t = t} p i j v s ha hp hi hj d l) = length-set t (cell_at n p i j) v ∙ steps-length s

  pub steps-le : {A : ℕ → ℕ → Type 0} {t₀ t : List ℕ} → Steps c f size n A t₀ t → (x : ℕ) → get_or t x 0 ≤ get_or t₀ x 0
  steps-le stay x = omega arith
  steps-le (step {t = t} p i j v s ha hp hi hj d l) x = omega (arith, steps-le s x, set-le t (cell_at n p i j) x v l)

  pub steps-sum : {A : ℕ → ℕ → Type 0} {t₀ t : List ℕ} → Steps c f size n A t₀ t → total t ≤ total t₀
  steps-sum stay = omega arith
  steps-sum (step {t = t} p i j v s ha hp hi hj d l) = omega (arith, steps-sum s, sum-set t (cell_at n p i j) v l)

  -- cells of other stretches
  pub steps-same : {A : ℕ → ℕ → Type 0} {t₀ t : List ℕ} → Steps c f size n A t₀ t → (q k l : ℕ) → k ≤ l → l ≤ n → (A k l → ⊥)
      → cell_of n t q k l ≡ cell_of n t₀ q k l
  steps-same stay q k l hk hl o = refl
  steps-same {A} (step {t = t} p i j v s ha hp hi hj d lt) q k l hk hl o =
      get_or-set_other t (cell_at n p i j) (cell_at n q k l) v 0 (λ e. let w = cell-inj n q k l p i j hk hl hi hj e in
      o (subst (λ (z : ℕ). A z l) (sym w.same-i) (subst (λ (z : ℕ). A i z) (sym w.same-j) ha)))
      ∙ steps-same s q k l hk hl o

  module _ {A : ℕ → ℕ → Type 0} {t₀ t : List ℕ} (s : Steps c f size n A t₀ t) where
    pub value_same : (q k l : ℕ) → k ≤ l → l ≤ n → (A k l → ⊥) → value_of c t n q k l ≡ value_of c t₀ n q k l
    value_same q k l hk hl o = ap (λ (z : ℕ). pick (eqb (next_kind c q) 0) (pick (eqb k l) 0 none) z) (steps-same s q k l hk hl o)

    pub split-same : (p i j m : ℕ) → i ≤ m → m ≤ j → j ≤ n → (A i m → ⊥) → (A m j → ⊥) → split_of c t n p i j m ≡ split_of c t₀ n p i j m
    split-same p i j m hi hm hj o o' =
        let e1 = steps-same s (rule_at c p) i m hi (omega arith) o in
        let e2 = value_same (p + 1) m j hm hj o' in
        λ ι. Prim.Native.Nat.max (up_of (e1 ι)) (e2 ι)
