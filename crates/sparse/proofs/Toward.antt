-- What the value of a dot lowers, and how heights follow when cells fall.
use mathlib.Core.Bool.{Bool, true, false}
use mathlib.Core.List.{List}
use mathlib.Core.Path.{◌≡◌, sym, ap, subst, ◌∙◌}
use Prim.Native.Nat.{ℕ, ◌+◌, ◌-◌, ◌<◌, ◌≤◌}
use native.Mathlib.Decide.{ℕ_discrete, dec_lt}
use native.Mathlib.Omega.{arith}
use lib.Dec.{eqb, leb}
use Rattle.text.specs.Lists.{pick}
use Rattle.chart.specs.Code.{next_kind, rule_at, owner_at}
use Rattle.chart.specs.Heights.{cell_at, none}
use Rattle.heights.specs.Table.{cell_of, up_of}
use Rattle.heights.proofs.Part.{toward-rest, toward-rule}
use Rattle.heights.proofs.Values.{up_is, up_none}
use Rattle.reach.specs.Flags.{dot_at, end_at, Wanted, home_of}
use Rattle.reach.proofs.Closed.{home-first}
use Rattle.sparse.specs.Cells.{is_last, row_of, rule_of, wide_rest, rest_of}
use Rattle.sparse.specs.Steps.{toward_of, Fell, On}
use Rattle.sparse.proofs.Rows.{rule-cell, rest-last, rest-row, last-is, row-inner, row_first}
use Rattle.sparse.proofs.Falls.{rule-same, rest-same, Target, own, rules}

-- the row that a dot lowers
pub target-of : (c : List ℕ) (p : ℕ) → Target c p (row_of c p)
target-of c p = elim (ℕ_discrete (owner_at c p) 0) as (λ _. Target c p (row_of c p)) [
  | yes z ↦ subst (Target c p) (sym (row-inner c p z)) (own z)
  | no z ↦ (let o : owner_at c p ≡ (owner_at c p - 1) + 1 = omega arith in subst (Target c p) (sym (row_first c p (owner_at c p - 1) o)) (rules o))
]

module _ (c M F : List ℕ) (size n : ℕ) (t : List ℕ) (p i j : ℕ) (on : On c M size p i j) (wide : i < j) (kind : next_kind c p ≡ 0 → ⊥) where
  pub toward-row : is_last c p ≡ false → toward_of c M F n t p i j ≡ cell_of n t (row_of c p) i j
  toward-row e = elim (ℕ_discrete (owner_at c p) 0) as (λ _. toward_of c M F n t p i j ≡ cell_of n t (row_of c p) i j) [
    | yes z ↦ toward-rest c (rule_of c M F n t) (rest_of c M F n t) p i j z
        ∙ rest-row c M F n t p i j (λ q. omega arith) kind on.used e on.live ∙ ap (λ (y : ℕ). cell_of n t y i j) (sym (row-inner c p z))
    | no z ↦ (let o : owner_at c p ≡ (owner_at c p - 1) + 1 = omega arith in
        let live : Wanted M (owner_at c p - 1) j = subst (λ (x : ℕ). Wanted M x j) (home-first c p (owner_at c p - 1) o) on.live in
        toward-rule c (rule_of c M F n t) (rest_of c M F n t) p (owner_at c p - 1) i j o
        ∙ rule-cell c M F n t (owner_at c p - 1) i j (λ q. omega arith) live ∙ ap (λ (y : ℕ). cell_of n t y i j) (sym (row_first c p (owner_at c p - 1) o)))
  ]

  pub toward-last : is_last c p ≡ true → toward_of c M F n t p i j ≡ up_of (rule_of c M F n t (rule_at c p) i j)
  toward-last e = toward-rest c (rule_of c M F n t) (rest_of c M F n t) p i j (last-is c p e).inner ∙ rest-last c M F n t p i j (λ q. omega arith) kind on.used e

pub up_le : (a b : ℕ) → a ≤ b → up_of a ≤ up_of b
up_le a b l = elim (dec_lt b none) as (λ _. up_of a ≤ up_of b) [
  | yes k ↦ omega (arith, up_is b k, up_is a (omega arith))
  | no k ↦ (elim (dec_lt a none) as (λ _. up_of a ≤ up_of b) [
    | yes h ↦ omega (arith, up_is a h, up_none b (omega arith))
    | no h ↦ omega (arith, up_none a (omega arith), up_none b (omega arith))
  ])
]

pick-le : (b : Bool) (x y x' y' : ℕ) → x ≤ x' → y ≤ y' → pick b x y ≤ pick b x' y'
pick-le true x y x' y' l m = l
pick-le false x y x' y' l m = m

module _ (c M F : List ℕ) (n : ℕ) (t u : List ℕ) (i j : ℕ) (le : (y : ℕ) → cell_of n u y i j ≤ cell_of n t y i j) where
  pub rule-le : (e : ℕ) → rule_of c M F n u e i j ≤ rule_of c M F n t e i j
  unfolding rule_of
  rule-le e = pick-le (eqb i j) _ _ _ _ (omega arith) (pick-le (leb 2 (end_at M e j)) _ _ _ _ (le e) (omega arith))

  wide-le : (p : ℕ) → wide_rest c M F n u p i j ≤ wide_rest c M F n t p i j
  unfolding wide_rest
  wide-le p = pick-le (is_last c p) _ _ _ _ (up_le _ _ (rule-le (rule_at c p))) (pick-le (leb 2 (end_at M (home_of c p) j)) _ _ _ _ (le p) (omega arith))

  pub rest_le : (p : ℕ) → rest_of c M F n u p i j ≤ rest_of c M F n t p i j
  unfolding rest_of
  rest_le p = pick-le (eqb i j) _ _ _ _ (omega arith) (pick-le (eqb (next_kind c p) 0) _ _ _ _ (omega arith) (pick-le (leb 1 (dot_at M p i)) _ _ _ _ (wide-le p) (omega arith)))

  pub toward-le : (p : ℕ) → toward_of c M F n u p i j ≤ toward_of c M F n t p i j
  toward-le p = pick-le (eqb (owner_at c p) 0) _ _ _ _ (rest_le p) (rule-le (owner_at c p - 1))

-- after cells fell
module _ {c M F : List ℕ} {size n J : ℕ} {A : ℕ → ℕ → Type 0} {t u : List ℕ} (f : Fell c M F size n J A t u) where
  -- nothing rises
  pub fell-toward : (p i j : ℕ) → toward_of c M F n u p i j ≤ toward_of c M F n t p i j
  fell-toward p i j = toward-le c M F n t u i j (λ y. f.le (cell_at n y i j)) p

  -- other stretches stay
  pub fell-rule : (e i j : ℕ) → i ≤ j → j ≤ n → (A i j → ⊥) → rule_of c M F n u e i j ≡ rule_of c M F n t e i j
  fell-rule e i j h l o = rule-same c M F n t u e i j (f.same e i j h l o)

  pub fell-rest : (p i j : ℕ) → i ≤ j → j ≤ n → (A i j → ⊥) → rest_of c M F n u p i j ≡ rest_of c M F n t p i j
  fell-rest p i j h l o = rest-same c M F n t u p i j (λ _. f.same p i j h l o) (λ _. f.same (rule_at c p) i j h l o)
