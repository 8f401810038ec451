-- The chosen reading, and ambiguity.
use Rattle.std.specs.Prelude.{◌≡◌, ◌⊎◌, List, [], ◌∷◌, ℕ, suc, ◌+◌, ◌<◌, ◌≤◌, max, T, length, drop}
use Rattle.text.specs.Lists.{Text}
use Rattle.tree.specs.Tree.{Terminal, Symbol, terminal, Grammar}
use Rattle.plain.specs.Plain.{alts, fits, width}
use Rattle.derive.specs.Derive.{Row, end, leaf, node, alternative, Derives, left_parse, height, root, Derivation}

-- "A symbol's least height on a stretch is the smallest among its derivations there."
pub record Least (g : Grammar) (r : Text) (s : Symbol) (i j h : ℕ) : Type 0 where
  pub tree : Row
  pub derives : Derives g r tree (s ∷ []) i j
  pub attained : height tree ≡ h
  pub least : (t : Row) → Derives g r t (s ∷ []) i j → h ≤ height t

-- "A way at a node is one of its alternatives with the end places of children that derive its stretch": of the alternative's
-- symbols on i to j, with the end places es; k is the greatest of the children's least heights
pub data Way (g : Grammar) (r : Text) : List Symbol → ℕ → ℕ → List ℕ → ℕ → Type 0 where
  w-end : {i : ℕ} → Way g r [] i i [] 0
  w-child : {s : Symbol} {ss : List Symbol} {es : List ℕ} {i m j h k : ℕ} → Least g r s i m h → Way g r ss m j es k → Way g r (s ∷ ss) i j (m ∷ es) (max h k)

-- "compared from the left": xs comes before ys, or is ys
abbrev pub NotAfter : List ℕ → List ℕ → Type 0
NotAfter [] ys = Unit {0}
NotAfter (x ∷ xs) [] = ⊥
NotAfter (x ∷ xs) (y ∷ ys) = (x < y) ⊎ ((x ≡ y) × NotAfter xs ys)

-- "among ways whose children's least heights give that node's least height, the chosen one has the earliest alternative, then
-- the smallest list of child end places": the way of alternative a and end places es is chosen for s on i to j
pub record Picked (g : Grammar) (r : Text) (s : Symbol) (i j a : ℕ) (es : List ℕ) : Type 0 where
  pub high : ℕ
  pub exists : a < length (alts g s)
  pub way : Way g r (alternative g s a) i j es high
  pub lowest : Least g r s i j (suc high)
  pub first : (b k : ℕ) (fs : List ℕ) → b < length (alts g s) → Way g r (alternative g s b) i j fs k → Least g r s i j (suc k) → (a < b) ⊎ ((a ≡ b) × NotAfter es fs)

-- the end places of a row's trees
abbrev pub ends : Row → List ℕ
ends end = []
ends (leaf m t) = m ∷ ends t
ends (node a m c t) = m ∷ ends t

-- "Children are chosen alike."
pub data Chosen (g : Grammar) (r : Text) : Row → List Symbol → ℕ → ℕ → Type 0 where
  ch-end : {i : ℕ} → Chosen g r end [] i i
  ch-leaf : {x : Terminal} {ss : List Symbol} {t : Row} {i j : ℕ} → T (fits x (drop i r)) → Chosen g r t ss (i + width x) j → Chosen g r (leaf (i + width x) t) (terminal x ∷ ss) i j
  ch-node : {s : Symbol} {ss : List Symbol} {c t : Row} {a i m j : ℕ} → Picked g r s i m a (ends c) → Chosen g r c (alternative g s a) i m
      → Chosen g r t ss m j → Chosen g r (node a m c t) (s ∷ ss) i j

-- "The chosen reading is the left parse of the derivation of the record so chosen."
pub record Reading (g : Grammar) (r : Text) (t : Row) (p : List ℕ) : Type 0 where
  pub chosen : Chosen g r t (root g ∷ []) 0 (length r)
  pub parse : p ≡ left_parse t

-- a second derivation of the record: "Two derivations differ exactly when these lists differ."
pub record Second (g : Grammar) (r : Text) (p : List ℕ) : Type 0 where
  pub tree : Row
  pub derives : Derivation g r tree
  pub differs : left_parse tree ≡ p → ⊥
