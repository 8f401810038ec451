-- The quick engine goes from one end to the next. At each, the rows of rules that are wanted there are cleared; then each stretch that ends
-- there, from the shortest on, is settled by what shorter ones handed on to it, and hands on in turn.
use Rattle.std.specs.Prelude.{false, List, ◌≡◌, ℕ, ◌+◌, ◌<◌, ◌≤◌, length, get_or}
use Rattle.chart.specs.Code.{next_kind, goes_at, owner_at}
use Rattle.chart.specs.Heights.{none}
use Rattle.heights.specs.Table.{cell_of}
use Rattle.reach.specs.Flags.{Wanted, home_of}
use Rattle.sparse.specs.Cells.{is_last, Tables}
use Rattle.sparse.specs.Steps.{Sound, LeastOn, Empties, HandedOn, Listed}
use Rattle.sparse.specs.Column.{Rows}
use Rattle.spread.specs.Spread.{low_from, Low, Full}

-- the row x is of a rule, or of a dot that is neither first, nor an end, nor before a last symbol
pub data Row (c : List ℕ) (x : ℕ) : Type 0 where
  of-rule : next_kind c x ≡ 0 → goes_at c x ≡ 0 → Row c x
  of-dot : (next_kind c x ≡ 0 → ⊥) → owner_at c x ≡ 0 → is_last c x ≡ false → Row c x

-- the cells of the row x that end at j are none at the starts before i; no cell of another row or end changed
pub record Emptied (n x j i : ℕ) (t t' : List ℕ) : Type 0 where
  pub long : length t' ≡ length t
  pub bare : (k : ℕ) → k < i → cell_of n t' x k j ≡ none
  pub other : (y k l : ℕ) → k ≤ l → l ≤ n → ((y ≡ x) × (l ≡ j) → ⊥) → cell_of n t' y k l ≡ cell_of n t y k l

-- no start before j is flagged, nor is it noted that any are
pub record Untouched (j : ℕ) (C C' : List ℕ) : Type 0 where
  pub long : length C' ≡ length C
  pub before : (z : ℕ) → z < 2563 → get_or C' z 0 ≡ get_or C z 0
  pub flags : (i : ℕ) → i < j → get_or C' (2563 + i) 0 ≡ 0
  pub none-full : get_or C' 3788 0 ≡ 0

-- of the rows before x nothing is noted
pub record Unnoted (j x : ℕ) (C C' : List ℕ) : Type 0 where
  pub long : length C' ≡ length C
  pub before : (z : ℕ) → z < 3276 → get_or C' z 0 ≡ get_or C z 0
  pub from : (y : ℕ) → y < x → low_from C' y ≡ j
  pub full : get_or C' 3788 0 ≡ get_or C 3788 0

-- what stands after the list of dots is as it was
abbrev pub AfterDots : List ℕ → List ℕ → Type 0
AfterDots C C' = (z : ℕ) → 512 < z → get_or C' z 0 ≡ get_or C z 0

module _ (c M : List ℕ) (n j : ℕ) where
  -- the dots before x are listed, if their rule is wanted
  pub record ListedTo (x : ℕ) (C : List ℕ) : Type 0 where
    pub listed : Listed c M x j C
    pub count : get_or C 512 0 ≤ x

  -- their rows are cleared
  pub record ClearedTo (x : ℕ) (t t' : List ℕ) : Type 0 where
    pub long : length t' ≡ length t
    pub same : (y k l : ℕ) → k ≤ l → l ≤ n → (l ≡ j → ⊥) → cell_of n t' y k l ≡ cell_of n t y k l
    pub rows : (y i : ℕ) → y < x → Wanted M (home_of c y) j → Row c y → i < j → cell_of n t' y i j ≡ none

  -- so is that of x
  pub record DotCleared (x : ℕ) (t t' : List ℕ) : Type 0 where
    pub long : length t' ≡ length t
    pub other : (y k l : ℕ) → k ≤ l → l ≤ n → ((y ≡ x) × (l ≡ j) → ⊥) → cell_of n t' y k l ≡ cell_of n t y k l
    pub row : Wanted M (home_of c x) j → Row c x → (i : ℕ) → i < j → cell_of n t' x i j ≡ none

  -- no row has a height from i to j
  pub record Bare (size i : ℕ) (t : List ℕ) : Type 0 where
    pub wide : i < j
    pub rows : (y : ℕ) → y < size → Wanted M (home_of c y) j → Row c y → cell_of n t y i j ≡ none

module _ (c M F : List ℕ) (size n j : ℕ) where
  -- the stretches that end before j are done
  pub record Before (t : List ℕ) : Type 0 where
    pub tables : Tables c M F size n (length t)
    pub empties : Empties c F size
    pub sound : Sound c M F size n j t
    pub least : (k l : ℕ) → k < l → l < j → LeastOn c M F size n t k l

  -- so are those from i on that end at j; a start before i that has no flag has no heights
  pub record From (i : ℕ) (t C : List ℕ) : Type 0 where
    pub tables : Tables c M F size n (length t)
    pub stop : j ≤ n
    pub rows : Rows c M size j F C
    pub full : Full C
    pub sound : Sound c M F size n (j + 1) t
    pub before : (k l : ℕ) → k < l → l < j → LeastOn c M F size n t k l
    pub least : (k : ℕ) → i ≤ k → k < j → LeastOn c M F size n t k j
    pub on : (p m : ℕ) → p < size → i ≤ m → m ≤ j → HandedOn c M F size n m j t p
    pub bare : (k : ℕ) → k < i → k < j → get_or C (2563 + k) 0 ≡ 0 → Bare c M n j size k t
    pub low : Low size n i j t C

-- heights of stretches that are not empty are those of derivations, and the least of them
pub record Filled (c M F : List ℕ) (size n : ℕ) (t : List ℕ) : Type 0 where
  pub sound : Sound c M F size n (n + 1) t
  pub least : (i j : ℕ) → i < j → j ≤ n → LeastOn c M F size n t i j
