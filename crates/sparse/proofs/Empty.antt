-- Heights of empty stretches are least, whatever the table has.
use mathlib.Core.Path.{◌≡◌, refl, ap, subst, ◌∙◌}
use mathlib.Core.List.{List}
use Prim.Native.Nat.{ℕ, ◌+◌, ◌-◌, ◌<◌, ◌≤◌}
use native.Mathlib.Decide.{ℕ_discrete}
use native.Mathlib.Omega.{arith}
use Rattle.chart.specs.Code.{next_kind, goes_at, rule_at, owner_at}
use Rattle.heights.specs.Table.{up_of}
use Rattle.heights.specs.Part.{by_end, by-terminal, by-split}
use Rattle.heights.proofs.Part.{toward-rest, toward-rule}
use Rattle.sparse.specs.Cells.{empty_in, rule_of, rest_of}
use Rattle.sparse.specs.Steps.{LeastOn, Empties, toward_of, empty_toward}
use Rattle.sparse.proofs.Rows.{rule-empty, rest-empty, empty-end}

module _ {c F : List ℕ} {size : ℕ} (d : Empties c F size) (M : List ℕ) (n : ℕ) (t : List ℕ) where
  toward-empty : (p i : ℕ) → toward_of c M F n t p i i ≡ empty_toward c F p
  toward-empty p i = rw (rule-empty c M F n t (owner_at c p - 1) i i refl, rest-empty c M F n t p i i refl) refl

  end_empty : (p i : ℕ) → p < size → next_kind c p ≡ 0 → toward_of c M F n t p i i ≡ 0
  end_empty p i h z = elim (ℕ_discrete (owner_at c p) 0) as (λ _. toward_of c M F n t p i i ≡ 0) [
    | yes o ↦ toward-rest c (rule_of c M F n t) (rest_of c M F n t) p i i o ∙ rest-empty c M F n t p i i refl ∙ empty-end c p F z
    | no o ↦ (let e : owner_at c p ≡ (owner_at c p - 1) + 1 = omega arith in
        toward-rule c (rule_of c M F n t) (rest_of c M F n t) p (owner_at c p - 1) i i e ∙ rule-empty c M F n t (owner_at c p - 1) i i refl ∙ d.end p (owner_at c p - 1) h z e)
  ]

  pub least-empty : (i : ℕ) → LeastOn c M F size n t i i
  least-empty i p v h u w (by_end z e y) l = omega (arith, end_empty p i h z)
  least-empty i p v h u w (by-terminal z f b y) l =
      let g : goes_at c p ≡ 0 = omega arith in
      let a = rest-empty c M F n t (p + 1) (i + goes_at c p) i (omega arith) in
      omega (arith, toward-empty p i, d.terminal p h z g (omega arith))
  least-empty i p v h u w (by-split m z a b f y) l =
      let q : up_of (rule_of c M F n t (rule_at c p) i m) ≡ up_of (empty_in F (rule_at c p)) = ap up_of (rule-empty c M F n t (rule_at c p) i m (omega arith)) in
      let s = rest-empty c M F n t (p + 1) m i (omega arith) in
      omega (arith, toward-empty p i, d.symbol p h z (omega arith))

  -- so it is with all stretches, if it is with those that are not empty
  pub least-all : ((i j : ℕ) → i < j → j ≤ n → LeastOn c M F size n t i j) → (i j : ℕ) → i ≤ j → j ≤ n → LeastOn c M F size n t i j
  least-all f i j h l = elim (ℕ_discrete i j) as (λ _. LeastOn c M F size n t i j) [
    | yes e ↦ subst (LeastOn c M F size n t i) e (least-empty i)
    | no e ↦ f i j (omega arith) l
  ]
