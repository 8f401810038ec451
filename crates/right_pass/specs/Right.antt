-- The pass from the right, at one place and from place to place.
use Rattle.std.specs.Prelude.{List, ◌≡◌, ℕ, ◌+◌, ◌*◌, ◌<◌, ◌≤◌, length, get_or}
use Rattle.text.specs.Lists.{Text}
use Rattle.rules.specs.Ready.{Token}
use Rattle.chart.specs.Code.{next_kind, goes_at, rule_at, owner_at}
use Rattle.reach.specs.Flags.{begin_at, end_at, Fits, Continued, Begins, Ends, Wanted, home_of, LeftClosed, RightClosed, FitsOnly}
use Rattle.reach.specs.Work.{Seen, Waits, Kept}
use Rattle.reach.specs.Lists.{Shape, Homes, Members}
use Rattle.left_pass.specs.Left.{Stir}

-- the rules at the place j: one that is wanted has its ends continued; one whose beginning is continued, its open uses
pub record Wants (c : List ℕ) (size : ℕ) (M Q : List ℕ) (j : ℕ) : Type 0 where
  pub end : (p : ℕ) → p < size → next_kind c p ≡ 0 → Wanted M (home_of c p) j → Fits M p j → Continued M p j
  pub back : (p : ℕ) → p < size → next_kind c p ≡ 2 → 2 ≤ begin_at M (rule_at c p) j → Seen Q p → Fits M p j → Continued M p j
  pub plain-open : (p : ℕ) → p < size → (next_kind c p ≡ 2 → ⊥) → Seen Q p
  pub homes : Homes c size Q

pub record At (c : List ℕ) (size : ℕ) (M Q : List ℕ) (j x : ℕ) : Type 0 where
  pub shape : Shape c size
  pub kept : Kept size 2 M Q j
  pub wants : Wants c size M Q j
  pub inside : x < size

pub record AtList (c : List ℕ) (w size : ℕ) (L M Q : List ℕ) (j x : ℕ) : Type 0 where
  pub at : At c size M Q j x
  pub list : Members c w size L

-- what was not flagged from the left is not
pub record Stepped (c : List ℕ) (size : ℕ) (M Q M' Q' : List ℕ) (j : ℕ) : Type 0 where
  pub stir : Stir size 2 M Q M' Q' j
  pub wants : Wants c size M' Q' j
  pub ones : (y : ℕ) → 1 ≤ get_or M' y 0 → 1 ≤ get_or M y 0
  pub twos : (p k : ℕ) → p < 512 → Fits M' p k → Fits M p k

-- what follows from a dot that is continued is so
abbrev pub FirstDone : List ℕ → List ℕ → ℕ → ℕ → Type 0
FirstDone c M j x = (e : ℕ) → owner_at c x ≡ e + 1 → Begins M e j → 2 ≤ begin_at M e j

abbrev pub SymbolDone : List ℕ → List ℕ → List ℕ → ℕ → ℕ → Type 0
SymbolDone c M Q j x = (p : ℕ) → x ≡ p + 1 → next_kind c p ≡ 2 → Seen Q p × (Ends M (rule_at c p) j → Wanted M (rule_at c p) j)

abbrev pub EmptyDone : List ℕ → List ℕ → ℕ → ℕ → Type 0
EmptyDone c M j x = (p : ℕ) → x ≡ p + 1 → next_kind c p ≡ 1 → goes_at c p ≡ 0 → Fits M p j → Continued M p j

pub record Done (c : List ℕ) (M Q : List ℕ) (j x : ℕ) : Type 0 where
  pub first : FirstDone c M j x
  pub symbol : SymbolDone c M Q j x
  pub empty : EmptyDone c M j x

pub record Closing (c : List ℕ) (size : ℕ) (U E M Q : List ℕ) (j : ℕ) : Type 0 where
  pub shape : Shape c size
  pub uses : Members c 3 size U
  pub ends : Members c 2 size E
  pub kept : Kept size 2 M Q j
  pub wants : Wants c size M Q j
  pub listed : (p : ℕ) → p < size → Continued M p j → Waits Q 0 p

pub record Closed (c : List ℕ) (size : ℕ) (M Q M' Q' : List ℕ) (j : ℕ) : Type 0 where
  pub stepped : Stepped c size M Q M' Q' j
  pub done : (p : ℕ) → p < size → Continued M' p j → Done c M' Q' j p

-- terminals of the dots from a on before b give back their characters at the place j
pub record Unshifted (c : List ℕ) (size : ℕ) (M M' : List ℕ) (j a b : ℕ) : Type 0 where
  pub long : length M' ≡ length M
  pub grows : (x : ℕ) → get_or M x 0 ≤ get_or M' x 0
  pub after : (x : ℕ) → 1536 * j ≤ x → get_or M' x 0 ≡ get_or M x 0
  pub rules : (k e : ℕ) → e < 512 → (begin_at M' e k ≡ begin_at M e k) × (end_at M' e k ≡ end_at M e k)
  pub ones : (y : ℕ) → 1 ≤ get_or M' y 0 → 1 ≤ get_or M y 0
  pub twos : (p k : ℕ) → p < 512 → Fits M' p k → Fits M p k
  pub shift : (p i : ℕ) → a ≤ p → p < b → p < size → next_kind c p ≡ 1 → (goes_at c p ≡ 0 → ⊥) → i + goes_at c p ≡ j → Fits M' p i → Continued M' (p + 1) j → Continued M' p i

pub record Unshifting (c : List ℕ) (size : ℕ) (M : List ℕ) (j : ℕ) : Type 0 where
  pub shape : Shape c size
  pub on : j ≤ 200
  pub marks-long : 1536 * j + 1536 ≤ length M

-- what the pass is given: flags from the left
pub record Righting (Tb c : List ℕ) (R : Text) (size top : ℕ) (M : List ℕ) : Type 0 where
  pub shape : Shape c size
  pub short : length R ≤ 200
  pub inside : top < size
  pub marks-long : 1536 * length R + 1536 ≤ length M
  pub closed : LeftClosed (Token Tb) c R size top M
  pub only : FitsOnly (Token Tb) c R size M
  pub level : (e k : ℕ) → e < 512 → (begin_at M e k ≤ 1) × (end_at M e k ≤ 1)
  pub ends : Ends M top (length R)

pub record Righted (Tb c : List ℕ) (R : Text) (size top : ℕ) (M : List ℕ) : Type 0 where
  pub long : 1536 * length R + 1536 ≤ length M
  pub left : LeftClosed (Token Tb) c R size top M
  pub only : FitsOnly (Token Tb) c R size M
  pub right : RightClosed c (length R) size top M
