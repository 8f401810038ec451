-- The main table after some rounds of a read.
use Rattle.std.specs.Prelude.{◌≡◌, ◌⊎◌, ◌↔◌, List, [], ◌∷◌, ℕ, suc, ◌+◌, ◌*◌, ◌<◌, ◌≤◌, length, get_or}
use Rattle.text.specs.Lists.{Text}
use Rattle.tree.specs.Tree.{Symbol, Grammar}
use Rattle.plain.specs.Plain.{size}
use Rattle.layout.specs.Layout.{layout, dots_of, name_at}
use Rattle.derive.specs.Derive.{Row, Derives, height, root}
use Rattle.derive.specs.Chosen.{Least}
use Rattle.chart.specs.Heights.{stretches, none}
use Rattle.heights.specs.Table.{cell_of}
use Rattle.rounds.specs.Rounds.{most_rounds}

-- rule q of the layout, by its symbol
abbrev pub rule_symbol : Grammar → ℕ → Symbol
rule_symbol g q = get_or (layout g) q (root g)

-- "it has a derivation of height at most k"
pub record Within (g : Grammar) (r : Text) (k : ℕ) (s : Symbol) (i j : ℕ) : Type 0 where
  pub tree : Row
  pub derives : Derives g r tree (s ∷ []) i j
  pub low : height tree ≤ k

-- "the main table alone, read the same way whatever k is": rule q has an entry on the stretch
abbrev pub Entered : Grammar → Text → List ℕ → ℕ → ℕ → ℕ → Type 0
Entered g r M q i j = cell_of (length r) M (name_at g q) i j < none

-- "After k rounds … the main table alone … says of every nonterminal and every stretch exactly whether it has a derivation of height at most k"
abbrev pub TableSays : Grammar → Text → ℕ → List ℕ → Type 0
TableSays g r k M = (q i j : ℕ) → q < length (layout g) → i ≤ j → j ≤ length r → Entered g r M q i j ↔ Within g r k (rule_symbol g q) i j

-- what the cell of a dot holds: the least height of rows of the symbols after it, if that is below k
pub data DotAfter (g : Grammar) (r : Text) (ss : List Symbol) (i j k : ℕ) : ℕ → Type 0 where
  dot-low : {v : ℕ} (t : Row) → Derives g r t ss i j → height t ≡ v → ((u : Row) → Derives g r u ss i j → v ≤ height u) → v < k → DotAfter g r ss i j k v
  dot-none : ((u : Row) → Derives g r u ss i j → k ≤ height u) → DotAfter g r ss i j k none

-- and that of a rule: one less than its symbol's least height, if that is at most k
pub data RuleAfter (g : Grammar) (r : Text) (s : Symbol) (i j k : ℕ) : ℕ → Type 0 where
  rule-low : {v : ℕ} → Least g r s i j (suc v) → v < k → RuleAfter g r s i j k v
  rule-none : ((u : Row) → Derives g r u (s ∷ []) i j → k < height u) → RuleAfter g r s i j k none

-- the whole table after k rounds; the ends that name no rule have no entry
pub record After (g : Grammar) (r : Text) (k : ℕ) (M : List ℕ) : Type 0 where
  pub room : size g * stretches (length r) ≤ length M
  pub dot : (p i j : ℕ) → p < size g → i ≤ j → j ≤ length r → (get_or (dots_of g) p [] ≡ [] → ⊥) → DotAfter g r (get_or (dots_of g) p []) i j k (cell_of (length r) M p i j)
  pub rule : (q i j : ℕ) → q < length (layout g) → i ≤ j → j ≤ length r → RuleAfter g r (rule_symbol g q) i j k (cell_of (length r) M (name_at g q) i j)
  pub ends : (p i j : ℕ) → p < size g → i ≤ j → j ≤ length r → get_or (dots_of g) p [] ≡ [] → cell_of (length r) M p i j < none
      → (q : ℕ) × (q < length (layout g)) × (p ≡ name_at g q)

-- "a round that adds no nonterminal on any stretch": the one after k rounds
abbrev pub Idle : Grammar → Text → ℕ → Type 0
Idle g r k = (q i j : ℕ) → q < length (layout g) → i ≤ j → j ≤ length r → Within g r (suc k) (rule_symbol g q) i j → Within g r k (rule_symbol g q) i j

-- "a read is finished after the first round that adds no nonterminal on any stretch, or after round N × (n+1)": with the round after k others
abbrev pub Ends : Grammar → Text → ℕ → Type 0
Ends g r k = Idle g r k ⊎ (suc k ≡ most_rounds g r)

-- the table of a finished read has every height, since none is above N × (n+1)
abbrev pub Finished : Grammar → Text → List ℕ → Type 0
Finished g r M = After g r (suc (most_rounds g r)) M
