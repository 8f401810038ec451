-- The search's sets: of places where each dot stands, and then where each rule begins; 8 numbers for each.
use Rattle.std.specs.Prelude.{Bool, true, false, List, ◌⊎◌, ◌≡◌, ℕ, ◌+◌, ◌*◌, ◌/◌, ◌%◌, ◌<◌, length, get_or}
use Rattle.bits.specs.Bits.{Lit, Has, Grows}
use Rattle.chart.specs.Code.{next_kind, rule_at}
use Rattle.sparse.specs.Cells.{Shape}
use Rattle.ends.specs.Spans.{OnList}
use Rattle.ends.specs.Table.{Ground}
use Rattle.moves.specs.Moves.{Move}
use Rattle.standing.specs.Stood.{Stood, Base}

-- the place x is in the row's set
pub record Member (S : List ℕ) (row x : ℕ) : Type 0 where
  pub low : x < 256
  pub lit : Lit (get_or S (8 * row + x / 32) 0) (x % 32)

-- a row takes in places of a set
pub record Joined (S S' : List ℕ) (row : ℕ) (C : List ℕ) : Type 0 where
  pub long : length S' ≡ length S
  pub is : (q x : ℕ) → Member S' q x → Member S q x ⊎ ((q ≡ row) × Has C x)

-- sets grow, and lose no place; whether one grew
pub record Grown (S S' : List ℕ) (r : Bool) : Type 0 where
  pub long : length S' ≡ length S
  pub kept : length S ≡ 8192 → (q x : ℕ) → Member S q x → Member S' q x
  pub grows : length S ≡ 8192 → Grows S S' r

-- a row takes in a set; whether it grew
pub record Merged (S S' : List ℕ) (row : ℕ) (C : List ℕ) (r : Bool) : Type 0 where
  pub joined : Joined S S' row C
  pub grown : Grown S S' r
  pub all : length S ≡ 8192 → (x : ℕ) → x < 256 → Has C x → Member S' row x

-- the places of a row
pub record Taken (S : List ℕ) (row : ℕ) (C C' : List ℕ) : Type 0 where
  pub is : (x : ℕ) → x < 256 → Has C' x → Member S row x
  pub all : length C ≡ 8 → (x : ℕ) → Member S row x → Has C' x

-- all places of the set are places of the dot p; places at which the rule e is entered
abbrev pub AtDot : (c L M : List ℕ) (n top p : ℕ) → List ℕ → Type 0
AtDot c L M n top p C = (x : ℕ) → x < 256 → Has C x → Stood c L M n top p x

-- what the sets say is so
pub record Told (c L M : List ℕ) (n top : ℕ) (S : List ℕ) : Type 0 where
  pub dots : (p x : ℕ) → p < 512 → Member S p x → Stood c L M n top p x
  pub rules : (e x : ℕ) → e < 512 → Member S (512 + e) x → (q : ℕ) → OnList L e q → Stood c L M n top q x

pub record Visiting (c : List ℕ) (size p : ℕ) : Type 0 where
  pub shape : Shape c size
  pub inside : p < size

-- the dot p is visited with a set of places, of which those are left that are new; whether to go on
pub record Visited (c : List ℕ) (p : ℕ) (S S' C C' : List ℕ) (r : Bool) : Type 0 where
  pub told : (L M : List ℕ) (n top : ℕ) → Told c L M n top S → AtDot c L M n top p C → Told c L M n top S'
  pub long : length S' ≡ length S
  pub less : (x : ℕ) → Has C' x → Has C x
  pub more : r ≡ true → next_kind c p ≡ 0 → ⊥

-- an alternative of a rule is followed from its first dot q
pub record Following (c M : List ℕ) (size n rule q : ℕ) (t : List ℕ) : Type 0 where
  pub lists : List ℕ
  pub ground : Ground c lists M size n (length t)
  pub inside : q < size
  pub rule-inside : rule < 512

pub record Followed (c M : List ℕ) (size n rule q : ℕ) (t S S' : List ℕ) : Type 0 where
  pub long : length S' ≡ length S
  pub told : (L : List ℕ) (top : ℕ) → Base c L M size n top t → OnList L rule q → Told c L M n top S → Told c L M n top S'

-- all that follows
pub record Ran (c L M : List ℕ) (size n : ℕ) (t S S' : List ℕ) : Type 0 where
  pub long : length S' ≡ length S
  pub told : (top : ℕ) → Base c L M size n top t → Told c L M n top S → Told c L M n top S'

-- where a symbol is after the dot p, its rule begins at the places of the set
pub record Entered (c : List ℕ) (p : ℕ) (S S' C : List ℕ) (r : Bool) : Type 0 where
  pub told : (L M : List ℕ) (n top : ℕ) → Told c L M n top S → AtDot c L M n top p C → Told c L M n top S'
  pub grown : Grown S S' r
  pub closed : r ≡ false → length S ≡ 8192 → next_kind c p ≡ 2 → (x : ℕ) → x < 256 → Has C x → Member S (512 + rule_at c p) x

-- what the dot after p is moved to
pub record Advanced (c M : List ℕ) (size n p : ℕ) (t S S' C : List ℕ) (r : Bool) : Type 0 where
  pub told : (L : List ℕ) (top : ℕ) → Base c L M size n top t → Told c L M n top S → AtDot c L M n top p C → Told c L M n top S'
  pub grown : Grown S S' r
  pub closed : r ≡ false → length S ≡ 8192 → (y z : ℕ) → Has C y → Move c M n t p y z → Member S (p + 1) z

-- what follows from the places of the dot p is in the sets
pub record DotClosed (c M : List ℕ) (n : ℕ) (t S : List ℕ) (p : ℕ) : Type 0 where
  pub symbol : next_kind c p ≡ 2 → (x : ℕ) → Member S p x → Member S (512 + rule_at c p) x
  pub next : (y z : ℕ) → Member S p y → Move c M n t p y z → Member S (p + 1) z

-- and from the places where the rule e begins
abbrev pub RuleClosed : List ℕ → List ℕ → ℕ → Type 0
RuleClosed L S e = (q x : ℕ) → OnList L e q → Member S (512 + e) x → Member S q x

pub record Redot (c M : List ℕ) (size n p : ℕ) (t S S' : List ℕ) (r : Bool) : Type 0 where
  pub told : (L : List ℕ) (top : ℕ) → Base c L M size n top t → Told c L M n top S → Told c L M n top S'
  pub grown : Grown S S' r
  pub closed : r ≡ false → length S ≡ 8192 → DotClosed c M n t S p

pub record Rerule (L : List ℕ) (size e : ℕ) (S S' : List ℕ) (r : Bool) : Type 0 where
  pub told : (c M : List ℕ) (n top : ℕ) → Told c L M n top S → Told c L M n top S'
  pub grown : Grown S S' r
  pub closed : r ≡ false → length S ≡ 8192 → RuleClosed L S e

-- of all dots and rules before b
pub record Rounded (c L M : List ℕ) (size n b : ℕ) (t S S' : List ℕ) (r : Bool) : Type 0 where
  pub told : (top : ℕ) → Base c L M size n top t → Told c L M n top S → Told c L M n top S'
  pub grown : Grown S S' r
  pub closed : r ≡ false → length S ≡ 8192 → (p : ℕ) → p < b → DotClosed c M n t S p × RuleClosed L S p

-- nothing is left to follow
pub record Closing (c L M : List ℕ) (size n : ℕ) (t S S' : List ℕ) : Type 0 where
  pub told : (top : ℕ) → Base c L M size n top t → Told c L M n top S → Told c L M n top S'
  pub kept : (q x : ℕ) → Member S q x → Member S' q x
  pub closed : (p : ℕ) → p < size → DotClosed c M n t S' p × RuleClosed L S' p

-- the sets say exactly where dots stand
pub record Exact (c L M : List ℕ) (size n top : ℕ) (S : List ℕ) : Type 0 where
  pub told : Told c L M n top S
  pub all : (p x : ℕ) → Stood c L M n top p x → Member S p x
