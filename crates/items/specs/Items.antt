-- The plain rules as items in a table: an item for each place of a dot, alternatives one after the other, so that the dot moves
-- from an item to the next. Item p is three numbers from 12288 + 3 * p on: its kind, its target and the place of its token.
--   1     a terminal, by its token
--   2 3 4 a nonterminal that is written as an element, as an attribute, or not; its target is the first item of its rule. A rule
--         that a bracket or a repetition makes has the token that begins its factor.
--   5 6   the end of an alternative: the next one begins at the next item; it is the last
use mathlib.Core.List.{List, [], ◌∷◌, ◌++◌, Memᴰ as In}
use Rattle.std.specs.Prelude.{◌⊎◌, ◌≡◌, ℕ, ◌+◌, ◌*◌, ◌<◌, ◌≤◌, length, get_or, take, drop}
use Rattle.text.specs.Lists.{Text}
use Rattle.tree.specs.Tree.{Mark, unmarked, included, attribute, deleted, Terminal, Grammar, rules}
use Rattle.tree.specs.Tree.{Symbol, terminal, nonterminal, group, option, repeat0, repeat1, repeat0sep, repeat1sep, rest}
use Rattle.tree.specs.Tokens.{Token, name, open-group, encode, terminal_tokens}
use Rattle.plain.specs.Written.{kind, made, terminals}
use Rattle.plain.specs.Plain.{alts, rule_mark, over, weight, size}

abbrev pub kind_at : List ℕ → ℕ → ℕ
kind_at T p = get_or T (12288 + 3 * p) 0

abbrev pub target_at : List ℕ → ℕ → ℕ
target_at T p = get_or T (12289 + 3 * p) 0

abbrev pub token_at : List ℕ → ℕ → ℕ
token_at T p = get_or T (12290 + 3 * p) 0

-- the tokens stand at a place
pub record Reads (T : List ℕ) (at : ℕ) (ts : List Token) : Type 0 where
  pub more : List ℕ
  pub stands : drop at (take 12288 T) ≡ encode ts ++ more

-- the tokens that begin what is written of a symbol: a made rule's are those of "the factor they came from"
abbrev pub lead : Symbol → List Token
lead (terminal x) = terminal_tokens x
lead (nonterminal m n) = name m n ∷ []
lead (group b) = open-group ∷ []
lead (option f) = lead f
lead (repeat0 f) = lead f
lead (repeat1 f) = lead f
lead (repeat0sep f sep) = lead f
lead (repeat1sep f sep) = lead f
lead (rest f sep) = lead f

-- the kind of an item, by its mark
abbrev pub mark_kind : Mark → ℕ
mark_kind m = elim m [ unmarked ↦ 2 | included ↦ 2 | attribute ↦ 3 | deleted ↦ 4 ]

-- where the rules of symbols begin: a rule's first item, and the symbol. A name stands there unmarked.
abbrev pub Starts : Type 0
Starts = List (ℕ × Symbol)

abbrev pub Among : ℕ → Symbol → Starts → Type 0
Among x s [] = ⊥
Among x s (y ∷ S) = ((y.0 ≡ x) × (y.1 ≡ s)) ⊎ Among x s S

-- the item stands for the symbol; a terminal is one of those that are written in g
pub data Stands (T : List ℕ) (g : Grammar) (S : Starts) : ℕ → Symbol → Type 0 where
  st-terminal : {p : ℕ} {x : Terminal} → kind_at T p ≡ 1 → Reads T (token_at T p) (terminal_tokens x) → In x (terminals g) → Stands T g S p (terminal x)
  st-name : {p : ℕ} {m : Mark} {n : Text} → kind_at T p ≡ mark_kind (over m (rule_mark (rules g) n)) → Reads T (token_at T p) (name m n ∷ [])
      → Among (target_at T p) (nonterminal unmarked n) S → Stands T g S p (nonterminal m n)
  st-made : {p : ℕ} {s : Symbol} → kind s ≡ made → kind_at T p ≡ 4 → Reads T (token_at T p) (lead s) → Among (target_at T p) s S → Stands T g S p s

-- from the item on, these symbols are left of an alternative
pub data Spells (T : List ℕ) (g : Grammar) (S : Starts) : ℕ → List Symbol → Type 0 where
  sp_end : {p : ℕ} → (kind_at T p ≡ 5) ⊎ (kind_at T p ≡ 6) → Spells T g S p []
  sp-item : {p : ℕ} {s : Symbol} {ss : List Symbol} → Stands T g S p s → Spells T g S (p + 1) ss → Spells T g S p (s ∷ ss)

-- from the item on stand these alternatives, of which there is one at least
pub data Alternatives (T : List ℕ) (g : Grammar) (S : Starts) : ℕ → List (List Symbol) → Type 0 where
  al-last : {x : ℕ} {ss : List Symbol} → Spells T g S x ss → kind_at T (x + length ss) ≡ 6 → Alternatives T g S x (ss ∷ [])
  al-more : {x : ℕ} {ss : List Symbol} {ts : List (List Symbol)} → Spells T g S x ss → kind_at T (x + length ss) ≡ 5
      → Alternatives T g S (x + (length ss + 1)) ts → Alternatives T g S x (ss ∷ ts)

pub record Spelt (T : List ℕ) (g : Grammar) (S : Starts) (p : ℕ) : Type 0 where
  pub after : List Symbol
  pub spells : Spells T g S p after

-- the table has the plain rules of g, as `size g` items; the root's rule begins at the item `root`
pub record Items (T : List ℕ) (g : Grammar) (root : ℕ) : Type 0 where
  pub starts : Starts
  pub rule : (x : ℕ) (s : Symbol) → Among x s starts → Alternatives T g starts x (alts g s)
  pub below : (x : ℕ) (s : Symbol) → Among x s starts → x + weight (alts g s) ≤ size g
  pub begins : Among root (nonterminal unmarked g.root.name) starts
  pub spelt : (p : ℕ) → p < size g → Spelt T g starts p
