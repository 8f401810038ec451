-- Rows taken apart into single trees, and put together.
use mathlib.Core.Path.{◌≡◌, refl, ap}
use mathlib.Core.List.{List, [], ◌∷◌, ◌++◌}
use Prim.Native.Nat.{ℕ, ◌+◌, ◌≤◌, max}
use native.Mathlib.Omega.{arith}
use Rattle.text.specs.Lists.{Text}
use Rattle.tree.specs.Tree.{Symbol, Grammar}
use Rattle.plain.specs.Plain.{width}
use Rattle.derive.specs.Derive.{Row, end, leaf, node, Derives, d-end, d-leaf, d-node, height}
use Rattle.derive.specs.Chosen.{ends}
use Rattle.derive.specs.Pick.{beside}

pub height-beside : (t u : Row) → height (beside t u) ≡ max (height t) (height u)
height-beside end u = omega arith
height-beside (leaf m t) u = height-beside t u
height-beside (node a m c t) u = omega (arith, height-beside t u)

pub ends-beside : (t u : Row) → ends (beside t u) ≡ ends t ++ ends u
ends-beside end u = refl
ends-beside (leaf m t) u = ap (λ (es : List ℕ). m ∷ es) (ends-beside t u)
ends-beside (node a m c t) u = ap (λ (es : List ℕ). m ∷ es) (ends-beside t u)

module _ (g : Grammar) (r : Text) where
  pub forward : {t : Row} {ss : List Symbol} {i j : ℕ} → Derives g r t ss i j → i ≤ j
  forward d-end = omega arith
  forward (d-leaf l d) = let h = forward d in omega arith
  forward (d-node h c d) = let h1 = forward c in let h2 = forward d in omega arith

  pub join : {t u : Row} {ss ss' : List Symbol} {i m j : ℕ} → Derives g r t ss i m → Derives g r u ss' m j → Derives g r (beside t u) (ss ++ ss') i j
  join d-end e = e
  join (d-leaf l d) e = d-leaf l (join d e)
  join (d-node h c d) e = d-node h c (join d e)

  -- a row's first tree and its others
  pub record Split (t : Row) (s : Symbol) (ss : List Symbol) (i j : ℕ) : Type 0 where
    pub place : ℕ
    pub tree : Row
    pub others : Row
    pub one : Derives g r tree (s ∷ []) i place
    pub rest : Derives g r others ss place j
    pub whole : t ≡ beside tree others
    pub places : ends t ≡ place ∷ ends others

  pub split : {t : Row} {s : Symbol} {ss : List Symbol} {i j : ℕ} → Derives g r t (s ∷ ss) i j → Split t s ss i j
  split (d-leaf {x} {t = t} {i = i} l d) = record { place = i + width x; tree = leaf (i + width x) end; others = t; one = d-leaf l d-end; rest = d; whole = refl; places = refl }
  split (d-node {c = c} {t = t} {a = a} {m = m} h k d) = record { place = m; tree = node a m c end; others = t; one = d-node h k d-end; rest = d; whole = refl; places = refl }

  -- no symbols have one row alone
  pub end_row : {t : Row} {i j : ℕ} → Derives g r t [] i j → t ≡ end
  end_row d-end = refl

  pub single-ends : {t : Row} {s : Symbol} {i j : ℕ} → Derives g r t (s ∷ []) i j → ends t ≡ j ∷ []
  single-ends (d-leaf l d-end) = refl
  single-ends (d-node h c d-end) = refl
