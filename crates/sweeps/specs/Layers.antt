-- The table a layer at a time: after the sweep of the height h it has all that is derived with at most h, and nothing above.
use Rattle.std.specs.Prelude.{Bool, true, false, ◌≡◌, List, ℕ, ◌+◌, ◌<◌, ◌≤◌, set}
use Rattle.chart.specs.Code.{next_kind, owner_at}
use Rattle.chart.specs.Heights.{cell_at, none}
use Rattle.heights.specs.Table.{cell_of, value_of, Place}
use Rattle.heights.specs.Filling.{Gives, Steps, Any}

-- every height in the table is below b, and whatever the table gives a cell below k, the cell is not above it
pub record Capped (c f : List ℕ) (size n b k : ℕ) (t : List ℕ) : Type 0 where
  pub most : (p i j : ℕ) → Place size n p i j → cell_of n t p i j ≤ none
  pub low : (p i j : ℕ) → Place size n p i j → cell_of n t p i j < none → cell_of n t p i j < b
  pub closed : (p i j v : ℕ) → Place size n p i j → Gives c f size n t p i j v → v < k → cell_of n t p i j ≤ v

-- "a derivation of height at most k": a rule's cell is one less than its symbol's height
abbrev pub Upto : List ℕ → List ℕ → ℕ → ℕ → ℕ → List ℕ → Type 0
Upto c f size n k t = Capped c f size n k k t

-- r tells whether a rule has a height in u on some stretch where it has none in t
pub data Adds (c : List ℕ) (size n : ℕ) (t u : List ℕ) : Bool → Type 0 where
  added : (e i j : ℕ) → Place size n e i j → next_kind c e ≡ 0 → none ≤ cell_of n t e i j → cell_of n u e i j < none → Adds c size n t u true
  same : ((e i j : ℕ) → Place size n e i j → next_kind c e ≡ 0 → cell_of n u e i j ≡ cell_of n t e i j) → Adds c size n t u false

-- a sweep of the height h
pub record Swept (c f : List ℕ) (size n h : ℕ) (t : List ℕ) (r : Bool) (u : List ℕ) : Type 0 where
  pub steps : Steps c f size n Any t u
  pub upto : Upto c f size n (h + 1) u
  pub adds : Adds c size n t u r

-- inside the sweep of the height h: the heights below it were there before
pub record Running (c f : List ℕ) (size n h : ℕ) (t : List ℕ) : Type 0 where
  pub height : h < none
  pub capped : Capped c f size n (h + 1) h t

-- the table gives the cell of p a value of at most h
pub record Offer (c f : List ℕ) (size n h : ℕ) (t : List ℕ) (p i j : ℕ) : Type 0 where
  pub value : ℕ
  pub gives : Gives c f size n t p i j value
  pub low : value ≤ h

-- p was visited on the stretch: its cell has what it is given, and so has the rule of which an alternative begins there
pub record Done (c f : List ℕ) (size n h : ℕ) (t : List ℕ) (i j p : ℕ) : Type 0 where
  pub dot : (next_kind c p ≡ 0 → ⊥) → Gives c f size n t p i j h → cell_of n t p i j ≤ h
  pub owner : (e : ℕ) → owner_at c p ≡ e + 1 → value_of c t n p i j ≡ h → cell_of n t e i j ≤ h

-- the whole stretch was visited
abbrev pub DoneAll : List ℕ → List ℕ → ℕ → ℕ → ℕ → List ℕ → ℕ → ℕ → Type 0
DoneAll c f size n h t i j = (p : ℕ) → p < size → Done c f size n h t i j p

-- a part of the sweep, on the stretches of A, after which P holds
pub record Passed (c f : List ℕ) (size n h : ℕ) (A : ℕ → ℕ → Type 0) (P : List ℕ → Type 0) (t : List ℕ) (r : Bool) (u : List ℕ) : Type 0 where
  pub steps : Steps c f size n A t u
  pub running : Running c f size n h u
  pub done : P u
  pub adds : Adds c size n t u r

-- r tells whether v is at most the height h
pub record Low (h v : ℕ) (r : Bool) : Type 0 where
  pub yes : r ≡ true → v ≤ h
  pub no : h < none → r ≡ false → h < v

-- r tells whether what stands after the dot at p, if anything does, has an offer
pub record Offered (c f : List ℕ) (size n h : ℕ) (t : List ℕ) (p i j : ℕ) (r : Bool) : Type 0 where
  pub yes : r ≡ true → (next_kind c p ≡ 0 → ⊥) × Offer c f size n h t p i j
  pub no : h < none → r ≡ false → (next_kind c p ≡ 0 → ⊥) → Offer c f size n h t p i j → ⊥

-- the cell of p holds a height, is offered none, or took h
pub data DotAdded (c f : List ℕ) (size n h : ℕ) (t : List ℕ) (p i j : ℕ) : List ℕ → Type 0 where
  dot-held : (cell_of n t p i j ≡ none → ⊥) → DotAdded c f size n h t p i j t
  dot-free : (h < none → (next_kind c p ≡ 0 → ⊥) → Offer c f size n h t p i j → ⊥) → DotAdded c f size n h t p i j t
  dot-added : cell_of n t p i j ≡ none → (next_kind c p ≡ 0 → ⊥) → Offer c f size n h t p i j → DotAdded c f size n h t p i j (set t (cell_at n p i j) h)

-- the rule of which an alternative begins at p: there is none, it holds a height, p is above h, or the rule took h
pub data RuleAdded (c : List ℕ) (n h : ℕ) (t : List ℕ) (p i j : ℕ) : Bool → List ℕ → Type 0 where
  no-rule : owner_at c p ≡ 0 → RuleAdded c n h t p i j false t
  rule-held : (e : ℕ) → owner_at c p ≡ e + 1 → (cell_of n t e i j ≡ none → ⊥) → RuleAdded c n h t p i j false t
  rule-above : h < value_of c t n p i j → RuleAdded c n h t p i j false t
  rule-added : (e : ℕ) → owner_at c p ≡ e + 1 → cell_of n t e i j ≡ none → value_of c t n p i j ≤ h → RuleAdded c n h t p i j true (set t (cell_at n e i j) h)

-- p was visited; the positions after it keep what they have
pub record Visited (c f : List ℕ) (size n h i j p : ℕ) (t u : List ℕ) : Type 0 where
  pub here : Done c f size n h u i j p
  pub kept : (q : ℕ) → p < q → q < size → Done c f size n h t i j q → Done c f size n h u i j q
