-- Derivations, from the plain rules alone.
use Rattle.std.specs.Prelude.{List, [], ◌∷◌, ◌++◌, ℕ, suc, ◌+◌, ◌<◌, max, T, length, get_or, drop}
use Rattle.text.specs.Lists.{Text}
use Rattle.tree.specs.Tree.{Terminal, Symbol, terminal, nonterminal, unmarked, Grammar}
use Rattle.plain.specs.Plain.{alts, fits, width}

-- A row of sibling trees: its first tree, with the character place where that ends, and the row of the others. A leaf stands
-- for a terminal, a node for a symbol with alternatives: it has the number of one of them, and the row of its children.
pub data Row : Type 0 where
  end : Row
  leaf : ℕ → Row → Row
  node : ℕ → ℕ → Row → Row → Row
  deriving Discrete as Row-discrete

abbrev pub alternative : Grammar → Symbol → ℕ → List Symbol
alternative g s a = get_or (alts g s) a []

-- "A nonterminal derives a stretch by one of its alternatives, whose symbols, left to right, derive stretches that adjoin and
-- together make it up; with no symbols it is empty": the row derives the symbols on the stretch from i to j of the record r
pub data Derives (g : Grammar) (r : Text) : Row → List Symbol → ℕ → ℕ → Type 0 where
  d-end : {i : ℕ} → Derives g r end [] i i
  d-leaf : {x : Terminal} {ss : List Symbol} {t : Row} {i j : ℕ} → T (fits x (drop i r)) → Derives g r t ss (i + width x) j → Derives g r (leaf (i + width x) t) (terminal x ∷ ss) i j
  d-node : {s : Symbol} {ss : List Symbol} {c t : Row} {a i m j : ℕ} → a < length (alts g s) → Derives g r c (alternative g s a) i m
      → Derives g r t ss m j → Derives g r (node a m c t) (s ∷ ss) i j

-- "named by its left parse: the alternative numbers, top node first, children left to right"
abbrev pub left_parse : Row → List ℕ
left_parse end = []
left_parse (leaf m t) = left_parse t
left_parse (node a m c t) = a ∷ (left_parse c ++ left_parse t)

-- "The height of a terminal or insertion is 0; of a nonterminal, 1 plus the greatest height of its children (1 if none)":
-- the greatest height in the row
abbrev pub height : Row → ℕ
height end = 0
height (leaf m t) = height t
height (node a m c t) = max (suc (height c)) (height t)

-- "The root is the first rule"
abbrev pub root : Grammar → Symbol
root g = nonterminal unmarked g.root.name

-- "a derivation of the record is one of the root over all of it"
abbrev pub Derivation : Grammar → Text → Row → Type 0
Derivation g r t = Derives g r t (root g ∷ []) 0 (length r)
