-- What a stretch hands on to longer ones with the same end: their heights fall, and their starts are flagged in the column.
use Rattle.std.specs.Prelude.{List, ◌≡◌, ℕ, ◌+◌, ◌*◌, ◌-◌, ◌<◌, ◌≤◌, max, min, length, get_or}
use Rattle.text.specs.Limits.{record_chars}
use Rattle.chart.specs.Code.{next_kind, rule_at}
use Rattle.chart.specs.Heights.{stretches, cell_at, none}
use Rattle.heights.specs.Table.{cell_of, up_of}
use Rattle.reach.specs.Flags.{Wanted}
use Rattle.sparse.specs.Cells.{row_of, rest_of, Shape}
use Rattle.sparse.specs.Steps.{Fell, HandedOn}

-- the stretches that end at j and begin before m
abbrev pub Ahead : ℕ → ℕ → ℕ → ℕ → Type 0
Ahead m j k l = (k < m) × (l ≡ j)

-- what the column notes of the row y: from a start on, its cells are at most one more than the level
abbrev pub level_at : List ℕ → ℕ → ℕ
level_at C y = get_or C (2764 + y) 0

abbrev pub low_from : List ℕ → ℕ → ℕ
low_from C y = get_or C (3276 + y) 0

-- the notes hold of the starts before m
abbrev pub Low : ℕ → ℕ → ℕ → ℕ → List ℕ → List ℕ → Type 0
Low size n m j t C = (y i : ℕ) → y < size → low_from C y ≤ i → i < m → cell_of n t y i j ≤ level_at C y + 1

-- from k on the starts before m are low enough for h
pub record High (C : List ℕ) (y m h k : ℕ) : Type 0 where
  pub most : k ≤ m
  pub low : (i : ℕ) → k ≤ i → i < m → (low_from C y ≤ i) × (level_at C y ≤ h)

-- the cells from z + f on, of the first k, are at most one more than h
pub record LowRun (t : List ℕ) (z k h f : ℕ) : Type 0 where
  pub most : f ≤ k
  pub low : (i : ℕ) → f ≤ i → i < k → get_or t (z + i) 0 ≤ h + 1

-- r is the less of v and the value of a dot whose symbol's rule has the height a, and whose rest has b, h being one less than b
pub record Better (a h v r : ℕ) : Type 0 where
  pub is : (b : ℕ) → h ≡ b - 1 → b ≤ none → r ≡ min v (max (up_of a) b)
  pub idle : none ≤ a → r ≡ v
  pub some : r < v → r < none

-- every start before the noted one is flagged
abbrev pub Full : List ℕ → Type 0
Full C = (i : ℕ) → i ≤ record_chars → i < get_or C 3788 0 → get_or C (2563 + i) 0 ≡ 0 → ⊥

-- all of the first k starts are flagged
abbrev pub AllFlagged : ℕ → List ℕ → Type 0
AllFlagged k C = (i : ℕ) → i < k → get_or C (2563 + i) 0 ≡ 0 → ⊥

-- the flags of the first k starts, of those that have a height in the cells from x on
pub record Touching (t : List ℕ) (x k : ℕ) (C C' : List ℕ) : Type 0 where
  pub long : length C' ≡ length C
  pub before : (z : ℕ) → z < 2563 → get_or C' z 0 ≡ get_or C z 0
  pub after : (z : ℕ) → 2563 + k ≤ z → get_or C' z 0 ≡ get_or C z 0
  pub at : (i : ℕ) → i < k → get_or C' (2563 + i) 0 ≡ 0 → (get_or C (2563 + i) 0 ≡ 0) × (none ≤ get_or t (x + i) 0)

-- the same, and up to where all are flagged is noted
pub record Touched (t : List ℕ) (x k : ℕ) (C C' : List ℕ) : Type 0 where
  pub long : length C' ≡ length C
  pub before : (z : ℕ) → z < 2563 → get_or C' z 0 ≡ get_or C z 0
  pub after : (z : ℕ) → 2563 + k ≤ z → z < 3788 → get_or C' z 0 ≡ get_or C z 0
  pub full : Full C'
  pub at : (i : ℕ) → i < k → get_or C' (2563 + i) 0 ≡ 0 → (get_or C (2563 + i) 0 ≡ 0) × (none ≤ get_or t (x + i) 0)

-- a stretch that is not empty, and the column of its end
pub record Listing (c M : List ℕ) (size n m j len : ℕ) (C : List ℕ) : Type 0 where
  pub shape : Shape c size
  pub short : n ≤ record_chars
  pub marks-long : 1536 * n + 1536 ≤ length M
  pub room : size * stretches n ≤ len
  pub wide : m < j
  pub stop : j ≤ n
  pub column : length C ≡ 3789
  pub full : Full C

-- a dot and a stretch
pub record Placed (c : List ℕ) (size n m j len : ℕ) (C : List ℕ) (p : ℕ) : Type 0 where
  pub shape : Shape c size
  pub short : n ≤ record_chars
  pub room : size * stretches n ≤ len
  pub order : m ≤ j
  pub stop : j ≤ n
  pub column : length C ≡ 3789
  pub full : Full C
  pub inside : p < size

module _ (c M F : List ℕ) (size n m j : ℕ) where
  -- what stands after the symbol of p has the height b
  pub record Offering (len : ℕ) (t C : List ℕ) (p b : ℕ) : Type 0 where
    pub placed : Placed c size n m j len C p
    pub is : b ≡ rest_of c M F n t (p + 1) m j
    pub some : b < none
    pub low : Low size n m j t C

  -- the cells of its symbol's rule begin at x, those of its row at y
  pub record Merging (t : List ℕ) (p x y k h : ℕ) : Type 0 where
    pub shape : Shape c size
    pub wide : m < j
    pub stop : j ≤ n
    pub inside : p < size
    pub kind : next_kind c p ≡ 2
    pub live : Wanted M (rule_at c p) m
    pub source : x ≡ cell_at n (rule_at c p) 0 m
    pub row : y ≡ cell_at n (row_of c p) 0 j
    pub count : k ≤ m
    pub less : h ≡ rest_of c M F n t (p + 1) m j - 1
    pub some : rest_of c M F n t (p + 1) m j < none

  -- the row of p, at the starts before i; at the others nothing changed
  pub record Merged (t : List ℕ) (p i : ℕ) (t' : List ℕ) : Type 0 where
    pub fell : Fell c M F size n (j + 1) (Ahead m j) t t'
    pub low : (k : ℕ) → k < i → cell_of n t' (row_of c p) k j ≤ max (up_of (cell_of n t (rule_at c p) k m)) (rest_of c M F n t (p + 1) m j)
    pub still : (k : ℕ) → k < m → none ≤ cell_of n t (rule_at c p) k m → (y : ℕ) → cell_of n t' y k j ≡ cell_of n t y k j
    pub ahead : (k : ℕ) → i ≤ k → k < m → (y : ℕ) → cell_of n t' y k j ≡ cell_of n t y k j

  -- heights of longer stretches fell; where a start has no flag, none did
  pub record Spread (t C t' C' : List ℕ) : Type 0 where
    pub fell : Fell c M F size n (j + 1) (Ahead m j) t t'
    pub long : length C' ≡ length C
    pub before : (z : ℕ) → z < 2563 → get_or C' z 0 ≡ get_or C z 0
    pub still : (i : ℕ) → i < m → get_or C' (2563 + i) 0 ≡ 0 → (get_or C (2563 + i) 0 ≡ 0) × ((y : ℕ) → cell_of n t' y i j ≡ cell_of n t y i j)
    pub low : Low size n m j t C → Low size n m j t' C'
    pub full : Full C → Full C'

  pub record DotSpread (t C t' C' : List ℕ) (p : ℕ) : Type 0 where
    pub spread : Spread t C t' C'
    pub on : HandedOn c M F size n m j t' p

  pub record AllSpread (t C t' C' : List ℕ) : Type 0 where
    pub spread : Spread t C t' C'
    pub on : (p : ℕ) → p < size → HandedOn c M F size n m j t' p
