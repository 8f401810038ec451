-- The pass from the left, at one place and from place to place.
use Rattle.std.specs.Prelude.{Bool, true, false, List, ◌⊎◌, ◌≡◌, ℕ, ◌+◌, ◌*◌, ◌<◌, ◌≤◌, T, length, get_or, drop}
use Rattle.text.specs.Lists.{Text}
use Rattle.text.specs.Limits.{grammar_table}
use Rattle.tree.specs.Tree.{Terminal}
use Rattle.plain.specs.Plain.{fits, width}
use Rattle.items.specs.Items.{token_at}
use Rattle.chart.specs.Code.{next_kind, goes_at, rule_at, owner_at}
use Rattle.terminals.specs.Places.{TerminalHere, TerminalAt}
use Rattle.rules.specs.Ready.{Token}
use Rattle.reach.specs.Flags.{dot_at, begin_at, end_at, Reached, Fits, Begins, Ends, home_of, LeftClosed, FitsOnly}
use Rattle.reach.specs.Work.{tail_of, Seen, Waits, Kept}
use Rattle.reach.specs.Lists.{Shape, Homes, Members}

-- bytes of the place i grow, dots are opened, and what is lifted is put into the queue
pub record Stir (size low : ℕ) (M Q M' Q' : List ℕ) (i : ℕ) : Type 0 where
  pub kept : Kept size low M' Q' i
  pub long : length M' ≡ length M
  pub grows : (x : ℕ) → get_or M x 0 ≤ get_or M' x 0
  pub away : (x : ℕ) → (x < 1536 * i) ⊎ (1536 * i + 1536 ≤ x) → get_or M' x 0 ≡ get_or M x 0
  pub seen : (p : ℕ) → Seen Q p → Seen Q' p
  pub homes : (x : ℕ) → 1024 < x → get_or Q' x 0 ≡ get_or Q x 0
  pub more : tail_of Q ≤ tail_of Q'
  pub same : (k : ℕ) → 0 < k → k ≤ tail_of Q → get_or Q' k 0 ≡ get_or Q k 0
  pub fresh : (p : ℕ) → p < 512 → low < dot_at M' p i → (low < dot_at M p i) ⊎ Waits Q' (tail_of Q) p

-- the rules at the place i: one that begins has its alternatives reached; one that ends, the open dots after it
pub record Rules (c : List ℕ) (size : ℕ) (M Q : List ℕ) (i : ℕ) : Type 0 where
  pub first : (q e : ℕ) → q < size → owner_at c q ≡ e + 1 → Begins M e i → Reached M q i
  pub over : (p : ℕ) → p < size → next_kind c p ≡ 2 → Ends M (rule_at c p) i → Seen Q (p + 1) → Reached M (p + 1) i
  pub begins-open : (q e : ℕ) → q < size → owner_at c q ≡ e + 1 → Seen Q q
  pub after_open : (p : ℕ) → p + 1 < size → next_kind c p ≡ 1 → Seen Q (p + 1)
  pub homes : Homes c size Q

-- what a step at a dot is given, and what it promises
pub record At (c : List ℕ) (size : ℕ) (M Q : List ℕ) (i p : ℕ) : Type 0 where
  pub shape : Shape c size
  pub kept : Kept size 0 M Q i
  pub rules : Rules c size M Q i
  pub inside : p < size
  pub reached : Reached M p i

pub record AtList (c : List ℕ) (w size : ℕ) (L M Q : List ℕ) (i p : ℕ) : Type 0 where
  pub at : At c size M Q i p
  pub list : Members c w size L

pub record Stepped (c : List ℕ) (size : ℕ) (M Q M' Q' : List ℕ) (i : ℕ) : Type 0 where
  pub stir : Stir size 0 M Q M' Q' i
  pub rules : Rules c size M' Q' i
  pub only : (p : ℕ) → p < size → next_kind c p ≡ 1 → Fits M' p i → Fits M p i ⊎ (goes_at c p ≡ 0)
  pub level : (x : ℕ) → 1536 * i + 512 ≤ x → get_or M x 0 ≤ 1 → get_or M' x 0 ≤ 1

-- what follows from a dot that is reached is so
abbrev pub SymbolDone : List ℕ → List ℕ → List ℕ → ℕ → ℕ → Type 0
SymbolDone c M Q i p = next_kind c p ≡ 2 → Begins M (rule_at c p) i × Seen Q (p + 1) × Fits M p i

abbrev pub EndDone : List ℕ → List ℕ → ℕ → ℕ → Type 0
EndDone c M i p = next_kind c p ≡ 0 → Ends M (home_of c p) i × Fits M p i

abbrev pub EmptyDone : List ℕ → List ℕ → ℕ → ℕ → Type 0
EmptyDone c M i p = next_kind c p ≡ 1 → goes_at c p ≡ 0 → Fits M p i × Reached M (p + 1) i

pub record Done (c : List ℕ) (M Q : List ℕ) (i p : ℕ) : Type 0 where
  pub symbol : SymbolDone c M Q i p
  pub end : EndDone c M i p
  pub empty : EmptyDone c M i p

-- a place is closed, but for terminals that take characters
pub record Closing (c : List ℕ) (size : ℕ) (F A M Q : List ℕ) (i : ℕ) : Type 0 where
  pub shape : Shape c size
  pub firsts : Members c 0 size F
  pub afters : Members c 1 size A
  pub kept : Kept size 0 M Q i
  pub rules : Rules c size M Q i
  pub listed : (p : ℕ) → p < size → Reached M p i → Waits Q 0 p

pub record Closed (c : List ℕ) (size : ℕ) (M Q M' Q' : List ℕ) (i : ℕ) : Type 0 where
  pub stepped : Stepped c size M Q M' Q' i
  pub done : (p : ℕ) → p < size → Reached M' p i → Done c M' Q' i p

-- what the pass is given of the grammar and the record
pub record Given (Tb c : List ℕ) (R : Text) (size : ℕ) (M : List ℕ) : Type 0 where
  pub table-long : length Tb ≡ grammar_table
  pub shape : Shape c size
  pub here : (p : ℕ) → p < size → next_kind c p ≡ 1 → TerminalHere Tb (token_at Tb p)
  pub token : (p : ℕ) (x : Terminal) → p < size → next_kind c p ≡ 1 → TerminalAt Tb (token_at Tb p) x → Token Tb p x
  pub goes : (p : ℕ) (x : Terminal) → p < size → next_kind c p ≡ 1 → Token Tb p x → goes_at c p ≡ width x
  pub short : length R ≤ 200
  pub marks-long : 1536 * length R + 1536 ≤ length M

-- terminals of the dots from a on before b take their characters at the place i
pub record Shifted (Tb c : List ℕ) (R : Text) (size : ℕ) (M M' : List ℕ) (i a b : ℕ) : Type 0 where
  pub long : length M' ≡ length M
  pub grows : (x : ℕ) → get_or M x 0 ≤ get_or M' x 0
  pub before : (x : ℕ) → x < 1536 * i → get_or M' x 0 ≡ get_or M x 0
  pub rules : (k e : ℕ) → i ≤ k → e < 512 → (begin_at M' e k ≡ begin_at M e k) × (end_at M' e k ≡ end_at M e k)
  pub dots : (p : ℕ) → p < 512 → Reached M' p i → Reached M p i
  pub ahead : (p k : ℕ) → p < 512 → i < k → dot_at M p k ≤ 1 → dot_at M' p k ≤ 1
  pub fit : (p : ℕ) (x : Terminal) → a ≤ p → p < b → p < size → next_kind c p ≡ 1 → (goes_at c p ≡ 0 → ⊥) → Reached M p i → Token Tb p x → T (fits x (drop i R))
      → Fits M' p i × Reached M' (p + 1) (i + goes_at c p)
  pub only : (p : ℕ) → p < size → next_kind c p ≡ 1 → Fits M' p i → Fits M p i ⊎ ((x : Terminal) → Token Tb p x → T (fits x (drop i R)))

pub record Lefting (Tb c : List ℕ) (R : Text) (size top : ℕ) (M : List ℕ) : Type 0 where
  pub given : Given Tb c R size M
  pub inside : top < size
  pub none : (x : ℕ) → get_or M x 0 ≡ 0

-- the pass is done; it answers whether the root's rule may end at the record's end
pub record Lefted (Tb c : List ℕ) (R : Text) (size top : ℕ) (M : List ℕ) (r : Bool) : Type 0 where
  pub long : 1536 * length R + 1536 ≤ length M
  pub closed : LeftClosed (Token Tb) c R size top M
  pub only : FitsOnly (Token Tb) c R size M
  pub level : (e k : ℕ) → e < 512 → (begin_at M e k ≤ 1) × (end_at M e k ≤ 1)
  pub ends : r ≡ true → Ends M top (length R)
  pub fails : r ≡ false → Ends M top (length R) → ⊥
