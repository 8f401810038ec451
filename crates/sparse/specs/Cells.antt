-- Heights of stretches in a table of which only a part is filled: rows of rules that are wanted at the stretch's end, and of dots that are
-- reached at its beginning. The heights of empty stretches stand apart: they are the same at every place.
use Rattle.std.specs.Prelude.{Bool, false, List, ◌≡◌, ℕ, ◌+◌, ◌*◌, ◌-◌, ◌<◌, ◌≤◌, eqb, leb, length, get_or}
use Rattle.text.specs.Limits.{most_size, record_chars}
use Rattle.text.specs.Lists.{pick}
use Rattle.chart.specs.Code.{next_kind, goes_at, rule_at, owner_at}
use Rattle.chart.specs.Heights.{stretches, none}
use Rattle.chart.specs.Uses.{Uses}
use Rattle.heights.specs.Table.{cell_of, up_of}
use Rattle.reach.specs.Flags.{dot_at, end_at, home_of}

-- What is noted of a grammar's rules: their uses, the rule of each dot, and the least heights of empty stretches: of what stands after a dot,
-- and, at the end that names a rule, of the rule.
abbrev pub home_in : List ℕ → ℕ → ℕ
home_in F p = get_or F (1024 + p) 0

abbrev pub empty_in : List ℕ → ℕ → ℕ
empty_in F p = get_or F (1536 + p) 0

-- nothing stands after an end
abbrev pub empty_rest : List ℕ → List ℕ → ℕ → ℕ
empty_rest c F p = pick (eqb (next_kind c p) 0) 0 (empty_in F p)

-- A dot before the last symbol of an alternative has no row, unless it is the first as well: what stands after it is that symbol.
unfoldable pub is_last : List ℕ → ℕ → Bool
is_last c p = pick (eqb (next_kind c p) 2) (pick (eqb (next_kind c (p + 1)) 0) (eqb (owner_at c p) 0) false) false

-- The row that the value of a dot lowers: the first dot of an alternative has none of its own.
abbrev pub row_of : List ℕ → ℕ → ℕ
row_of c p = pick (eqb (owner_at c p) 0) p (owner_at c p - 1)

module _ (c M F : List ℕ) (n : ℕ) (t : List ℕ) where
  -- the height of the rule e, one less than its symbol's
  unfoldable pub rule_of : ℕ → ℕ → ℕ → ℕ
  rule_of e i j = pick (eqb i j) (empty_in F e) (pick (leb 2 (end_at M e j)) (cell_of n t e i j) none)

  -- that of a dot on a stretch that is not empty
  unfoldable pub wide_rest : ℕ → ℕ → ℕ → ℕ
  wide_rest p i j = pick (is_last c p) (up_of (rule_of (rule_at c p) i j)) (pick (leb 2 (end_at M (home_of c p) j)) (cell_of n t p i j) none)

  -- that of what stands after the dot p, which begins no alternative
  unfoldable pub rest_of : ℕ → ℕ → ℕ → ℕ
  rest_of p i j = pick (eqb i j) (empty_rest c F p) (pick (eqb (next_kind c p) 0) none (pick (leb 1 (dot_at M p i)) (wide_rest p i j) none))

-- what is used of a code
pub record Shape (c : List ℕ) (size : ℕ) : Type 0 where
  pub small : size ≤ most_size
  pub room : 4 * size ≤ length c
  pub nexts : (p : ℕ) → p < size → (next_kind c p ≡ 0 → ⊥) → p + 1 < size
  pub inner : (p : ℕ) → p + 1 < size → (next_kind c p ≡ 0 → ⊥) → owner_at c (p + 1) ≡ 0
  -- a symbol's rule has an alternative
  pub names : (p : ℕ) → p < size → next_kind c p ≡ 2 → (rule_at c p < size) × (goes_at c p < size) × (owner_at c (goes_at c p) ≡ rule_at c p + 1)
  -- a rule is named by the end of its last alternative
  pub owners : (p e : ℕ) → p < size → owner_at c p ≡ e + 1 → (e < size) × (next_kind c e ≡ 0) × (goes_at c e ≡ 0) × (home_of c e ≡ e)

-- what is noted of the code's rules
pub record Noted (c : List ℕ) (size : ℕ) (F : List ℕ) : Type 0 where
  pub long : length F ≡ 2048
  pub uses : Uses c size size F
  pub homes : (p : ℕ) → p < size → home_in F p ≡ home_of c p

-- what reading a rule's height goes by
pub record Reads (M F : List ℕ) (size n main : ℕ) : Type 0 where
  pub small : size ≤ most_size
  pub noted-long : length F ≡ 2048
  pub short : n ≤ record_chars
  pub marks-long : 1536 * n + 1536 ≤ length M
  pub room : size * stretches n ≤ main

-- the tables of a record of n characters
pub record Tables (c M F : List ℕ) (size n main : ℕ) : Type 0 where
  pub shape : Shape c size
  pub noted : Noted c size F
  pub short : n ≤ record_chars
  pub marks-long : 1536 * n + 1536 ≤ length M
  pub room : size * stretches n ≤ main
