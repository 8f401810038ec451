-- The walk over the filled part of the main table, in numbers alone: what each of its tests and steps says of the tables.
use Rattle.std.specs.Prelude.{Bool, ◌||◌, ◌≡◌, List, ℕ, ◌+◌, ◌*◌, ◌-◌, ◌<◌, ◌≤◌, length, get_or, set}
use Rattle.text.specs.Limits.{reading_numbers}
use Rattle.chart.specs.Code.{next_kind, goes_at, rule_at}
use Rattle.sparse.specs.Cells.{rule_of}
use Rattle.reading.specs.declared.Cursor.{Cursor}
use Rattle.candidates.specs.declared.Alternative.{Alternative}
use Rattle.splits.specs.Splits.{Position, Ready}
use Rattle.candidates.specs.Candidates.{FirstEnd, FirstLow, LowEnd, OtherBy, OtherEnd, SomeEnd, SomeLow, Tells}

-- the stack with the row that begins at p, to be walked to j with heights at most k
abbrev pub pushed : List ℕ → ℕ → ℕ → ℕ → ℕ → List ℕ
pushed st d p j k = set (set (set st (3 * d) p) (3 * d + 1) j) (3 * d + 2) k

-- back to the row that was left last
abbrev pub popped : List ℕ → Cursor → Cursor
popped st h = record {
  size = h.size;
  n = h.n;
  p = get_or st (3 * (h.depth - 1)) 0;
  i = h.j;
  j = record { 0 = get_or st (3 * (h.depth - 1) + 1) 0 };
  k = get_or st (3 * (h.depth - 1) + 2) 0;
  at = h.at;
  depth = h.depth - 1;
  mark = h.mark;
}

-- past a terminal
abbrev pub skipped : List ℕ → Cursor → Cursor
skipped c h = record {
  size = h.size;
  n = h.n;
  p = h.p + 1;
  i = record { 0 = h.i.0 + goes_at c h.p };
  j = h.j;
  k = h.k;
  at = h.at;
  depth = h.depth;
  mark = h.mark;
}

-- before the node of a symbol that ends at m
abbrev pub descended : Cursor → ℕ → Bool → Cursor
descended h m b = record { size = h.size; n = h.n; p = h.p; i = h.i; j = record { 0 = m }; k = h.k; at = h.at; depth = h.depth + 1; mark = h.mark || b }

-- in the node, whose alternative is a and whose rows have heights at most k
abbrev pub entered : Cursor → Alternative → ℕ → Bool → Cursor
entered h a k b = record { size = h.size; n = h.n; p = a.place; i = h.i; j = h.j; k = k; at = h.at + 1; depth = h.depth; mark = h.mark || b }

-- where one number more is counted
abbrev pub counted : Cursor → Cursor
counted h = record { size = h.size; n = h.n; p = h.p; i = h.i; j = h.j; k = h.k; at = h.at + 1; depth = h.depth; mark = h.mark }

module _ (c M F : List ℕ) (size n : ℕ) (H : List ℕ) where
  -- the height of the rule e on the cursor's stretch
  abbrev pub height_of : ℕ → Cursor → ℕ
  height_of e h = rule_of c M F n H e h.i.0 h.j.0

  -- a node of the rule e, whose first position is q, is entered: its number is written, or there is no room for it
  pub data Entered (e q : ℕ) (out out' : List ℕ) (h r : Cursor) : Type 0 where
    full : h.at ≡ reading_numbers → out' ≡ out → r.p ≡ h.p → r.at ≡ reading_numbers + 1 → r.depth ≡ h.depth → Entered e q out out' h r
    wrote : (a : Alternative) (b : Bool) → h.at < reading_numbers → FirstLow c M F size n H q h.i.0 h.j.0 (height_of e h) a
        → Tells b (OtherBy c M F size n H q h.i.0 h.j.0 a.number) → out' ≡ set out h.at a.number → r ≡ entered h a (height_of e h) b
        → Entered e q out out' h r

  pub data Stepped (out out' st st' : List ℕ) (h r : Cursor) : Type 0 where
    at-end : next_kind c h.p ≡ 0 → out' ≡ out → st' ≡ st → r ≡ popped st h → Stepped out out' st st' h r
    at-terminal : next_kind c h.p ≡ 1 → out' ≡ out → st' ≡ st → r ≡ skipped c h → Stepped out out' st st' h r
    at_symbol : next_kind c h.p ≡ 2 → (m : ℕ) (b : Bool) → FirstEnd c M F size n H h.p h.i.0 h.j.0 h.k m
        → Tells b (OtherEnd c M F size n H h.p h.i.0 h.j.0 m) → st' ≡ pushed st h.depth (h.p + 1) h.j.0 h.k
        → Entered (rule_at c h.p) (goes_at c h.p) out out' (descended h m b) r → Stepped out out' st st' h r

  -- what entering a node asks
  pub record CanEnter (e q : ℕ) (out : List ℕ) (h : Cursor) : Type 0 where
    pub ready : Ready c M F H size n h.i.0 h.j.0
    pub rule : e < size
    pub some : SomeLow c M F size n H q h.i.0 h.j.0 (height_of e h)
    pub room : reading_numbers ≤ length out
    pub most : h.at ≤ reading_numbers

  -- what a symbol asks
  pub record CanDescend (h : Cursor) : Type 0 where
    pub ends : SomeEnd c M F size n H h.p h.i.0 h.j.0 h.k
    pub lows : (m : ℕ) → h.i.0 ≤ m → m ≤ h.j.0 → LowEnd c M F size n H h.p h.i.0 h.j.0 h.k m
        → SomeLow c M F size n H (goes_at c h.p) h.i.0 m (rule_of c M F n H (rule_at c h.p) h.i.0 m)

  -- what a step asks
  pub record CanStep (out st : List ℕ) (h : Cursor) : Type 0 where
    pub ready : Ready c M F H size n h.i.0 h.j.0
    pub position : Position c size h.p
    pub written : h.depth < h.at
    pub most : h.at ≤ reading_numbers
    pub room : reading_numbers ≤ length out
    pub stack : 3 * reading_numbers ≤ length st
    pub back : next_kind c h.p ≡ 0 → 0 < h.depth
    pub on : next_kind c h.p ≡ 2 → CanDescend h

-- the walk is over: the last row ends, or the numbers are too many
abbrev pub Over : List ℕ → Cursor → Type 0
Over c h = (h.at ≤ reading_numbers → (next_kind c h.p ≡ 0) × (h.depth ≡ 0))
