-- What a finished main table says: the least height of what stands after each dot, and of each rule, on each stretch.
use Rattle.std.specs.Prelude.{◌≡◌, List, [], ◌∷◌, ℕ, suc, ◌+◌, ◌*◌, ◌/◌, ◌<◌, ◌≤◌, ◌^◌, ◌-◌, length, get_or}
use Rattle.text.specs.Lists.{Text}
use Rattle.tree.specs.Tree.{Symbol, Grammar}
use Rattle.derive.specs.Derive.{Row, Derives, height}
use Rattle.derive.specs.Chosen.{Least}
use Rattle.chart.specs.Code.{next_kind, owner_at, after_dot, head_of, Coded}

-- the stretches that end before j, and all stretches of a record of n characters
abbrev pub before : ℕ → ℕ
before j = j * (j + 1) / 2

abbrev pub stretches : ℕ → ℕ
stretches n = (n + 1) * (n + 2) / 2

-- the cell of the position p on the stretch from i to j
abbrev pub cell_at : ℕ → ℕ → ℕ → ℕ → ℕ
cell_at n p i j = p * stretches n + before j + i

-- no derivation
abbrev pub none : ℕ
none = 2 ^ 32 - 1

-- the first k cells are none
abbrev pub Clear : ℕ → List ℕ → Type 0
Clear k t = (x : ℕ) → x < k → get_or t x 0 ≡ none

-- h is the least height of rows of the symbols on the stretch, or none
pub data Says (g : Grammar) (r : Text) (ss : List Symbol) (i j : ℕ) : ℕ → Type 0 where
  says_none : ((t : Row) → Derives g r t ss i j → ⊥) → Says g r ss i j none
  says-height : {h : ℕ} (t : Row) → Derives g r t ss i j → height t ≡ h → ((u : Row) → Derives g r u ss i j → h ≤ height u) → h < none → Says g r ss i j h

-- h is the least height of rows of the symbol's alternatives: one less than the symbol's own
pub data SaysRule (g : Grammar) (r : Text) (s : Symbol) (i j : ℕ) : ℕ → Type 0 where
  rule-none : ((t : Row) → Derives g r t (s ∷ []) i j → ⊥) → SaysRule g r s i j none
  rule-height : {h : ℕ} → Least g r s i j (suc h) → h < none → SaysRule g r s i j h

-- the main table M is finished
pub record Heights (c f : List ℕ) (g : Grammar) (r : Text) (size top first : ℕ) (k : Coded c f g r size top first) (M : List ℕ) : Type 0 where
  pub room : size * stretches (length r) ≤ length M
  -- "a cell says exactly whether the rest of that alternative derives that stretch, and with which least height"
  pub dot : (p i j : ℕ) → p < size → (next_kind c p ≡ 0 → ⊥) → i ≤ j → j ≤ length r → Says g r (after_dot k.dots p) i j (get_or M (cell_at (length r) p i j) 0)
  -- nothing stands after an alternative's end, so the cell of a rule's last end is free for the rule itself
  pub rule : (p e i j : ℕ) → p < size → owner_at c p ≡ e + 1 → i ≤ j → j ≤ length r → SaysRule g r (head_of g k.heads e) i j (get_or M (cell_at (length r) e i j) 0)
