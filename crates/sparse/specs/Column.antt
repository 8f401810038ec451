-- What the column of an end j lists for the stretches that end there and are not empty: the rows that may lower others on the same stretch,
-- and the dots that hand on to longer ones, each with the row that has its height.
use Rattle.std.specs.Prelude.{true, false, List, ◌⊎◌, ◌≡◌, ℕ, ◌+◌, ◌<◌, ◌≤◌, get_or}
use Rattle.chart.specs.Code.{next_kind, goes_at, rule_at, owner_at}
use Rattle.chart.specs.Heights.{none}
use Rattle.reach.specs.Flags.{Wanted, home_of}
use Rattle.sparse.specs.Cells.{is_last, empty_in, empty_rest}
use Rattle.sparse.specs.Steps.{Listed}

-- what stands after the dot q can take nothing: an insertion, or a symbol whose rule derives the empty text
abbrev pub Vanishes : List ℕ → List ℕ → ℕ → Type 0
Vanishes c F q = ((next_kind c q ≡ 1) × (goes_at c q ≡ 0)) ⊎ ((next_kind c q ≡ 2) × (empty_in F (rule_at c q) < none))

-- a rule is flagged if one of the uses before k may stand last
abbrev pub UnitsTo : List ℕ → List ℕ → ℕ → List ℕ → Type 0
UnitsTo c F k C = (p : ℕ) → p < k → next_kind c p ≡ 2 → empty_rest c F (p + 1) < none → get_or C (2051 + rule_at c p) 0 ≡ 0 → ⊥

-- the row x is listed among those that wake; so is the dot x among those that hand on
abbrev pub WakesBy : List ℕ → ℕ → Type 0
WakesBy C x = (k : ℕ) × (k < get_or C 2049 0) × (get_or C (513 + k) 0 ≡ x)

abbrev pub HandsBy : List ℕ → ℕ → Type 0
HandsBy C x = (k : ℕ) × (k < get_or C 2050 0) × (get_or C (1025 + k) 0 ≡ x)

module _ (c M : List ℕ) (size j : ℕ) where
  -- a row that wakes: a rule's, or that of a dot
  pub record Wakes (x : ℕ) : Type 0 where
    pub inside : x < size
    pub live : Wanted M (home_of c x) j
    pub dot : (next_kind c x ≡ 0 → ⊥) → (owner_at c x ≡ 0) × (is_last c x ≡ false)

  -- a dot that hands on, and its row: that of a last symbol is its rule's
  pub record Hands (x y : ℕ) : Type 0 where
    pub later : 0 < x
    pub inside : x < size
    pub row : y < size
    pub kind : next_kind c x ≡ 0 → ⊥
    pub live : Wanted M (home_of c x) j
    pub own : is_last c x ≡ false → y ≡ x
    pub last : is_last c x ≡ true → (y ≡ rule_at c x) × Wanted M (rule_at c x) j

  -- of the rows in D all that wake are listed
  pub record WakesOf (F : List ℕ) (D : ℕ → Type 0) (C : List ℕ) : Type 0 where
    pub count : get_or C 2049 0 ≤ 512
    pub each : (k : ℕ) → k < get_or C 2049 0 → Wakes (get_or C (513 + k) 0)
    pub rule : (p : ℕ) → p < size → next_kind c p ≡ 2 → empty_rest c F (p + 1) < none → D (rule_at c p) → WakesBy C (rule_at c p)
    pub dot : (q : ℕ) → q + 1 < size → (next_kind c (q + 1) ≡ 0 → ⊥) → owner_at c (q + 1) ≡ 0 → is_last c (q + 1) ≡ false → Vanishes c F q → D (q + 1) → WakesBy C (q + 1)

  -- so are all dots in it that hand on
  pub record HandsOf (D : ℕ → Type 0) (C : List ℕ) : Type 0 where
    pub count : get_or C 2050 0 ≤ 512
    pub each : (k : ℕ) → k < get_or C 2050 0 → Hands (get_or C (1025 + k) 0) (get_or C (1537 + k) 0)
    pub all : (p : ℕ) → p + 1 < size → (next_kind c (p + 1) ≡ 0 → ⊥) → owner_at c (p + 1) ≡ 0 → (is_last c (p + 1) ≡ true → Wanted M (rule_at c (p + 1)) j) → D (p + 1)
        → HandsBy C (p + 1)

  -- those of rules that are wanted at j
  abbrev pub Due : ℕ → Type 0
  Due x = Wanted M (home_of c x) j

  pub record Rows (F C : List ℕ) : Type 0 where
    pub listed : Listed c M size j C
    pub units : UnitsTo c F size C
    pub wakes : WakesOf F Due C
    pub hands : HandsOf Due C
