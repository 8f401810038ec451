-- Two finished tables of one code agree in every cell that says something: whichever engine filled them.
use mathlib.Core.Path.{◌≡◌, refl}
use mathlib.Core.List.{List}
use Prim.Native.Nat.{ℕ, ◌+◌, ◌<◌, ◌≤◌}
use native.Mathlib.Omega.{arith}
use lib.ListN.{length}
use Rattle.text.specs.Lists.{Text}
use Rattle.tree.specs.Tree.{Symbol, Grammar}
use Rattle.chart.specs.Code.{next_kind, owner_at, Coded}
use Rattle.chart.specs.Heights.{Says, says_none, says-height, SaysRule, rule-none, rule-height, Heights}
use Rattle.heights.specs.Table.{cell_of}

module _ (g : Grammar) (r : Text) where
  says-one : {ss : List Symbol} {i j a b : ℕ} → Says g r ss i j a → Says g r ss i j b → a ≡ b
  says-one (says_none f) (says_none h) = refl
  says-one (says_none f) (says-height t d e m l) = absurd (f t d)
  says-one (says-height t d e m l) (says_none f) = absurd (f t d)
  says-one (says-height t d e m l) (says-height u d' e' m' l') = omega (arith, m u d', m' t d)

  rule-one : {s : Symbol} {i j a b : ℕ} → SaysRule g r s i j a → SaysRule g r s i j b → a ≡ b
  rule-one (rule-none f) (rule-none h) = refl
  rule-one (rule-none f) (rule-height w l) = absurd (f w.tree w.derives)
  rule-one (rule-height w l) (rule-none f) = absurd (f w.tree w.derives)
  rule-one (rule-height w l) (rule-height w' l') = omega (arith, w.attained, w'.attained, w.least w'.tree w'.derives, w'.least w.tree w.derives)

module _ (c f : List ℕ) (g : Grammar) (r : Text) (size top first : ℕ) (k : Coded c f g r size top first) (t u : List ℕ)
    (x : Heights c f g r size top first k t) (y : Heights c f g r size top first k u) (i j : ℕ) (hi : i ≤ j) (hj : j ≤ length r) where
  pub same-dot : (p : ℕ) → p < size → (next_kind c p ≡ 0 → ⊥) → cell_of (length r) t p i j ≡ cell_of (length r) u p i j
  same-dot p hp d = says-one g r (x.dot p i j hp d hi hj) (y.dot p i j hp d hi hj)

  pub same-rule : (p e : ℕ) → p < size → owner_at c p ≡ e + 1 → cell_of (length r) t e i j ≡ cell_of (length r) u e i j
  same-rule p e hp o = rule-one g r (x.rule p e i j hp o hi hj) (y.rule p e i j hp o hi hj)
