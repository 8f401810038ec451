-- What the rows of the table of ends say, while they are filled.
use Rattle.std.specs.Prelude.{Bool, false, List, ◌⊎◌, ◌≡◌, ℕ, ◌+◌, ◌*◌, ◌<◌, ◌≤◌, length}
use Rattle.bits.specs.Bits.{Has, Grows}
use Rattle.chart.specs.Code.{next_kind}
use Rattle.chart.specs.Heights.{stretches}
use Rattle.reach.specs.Flags.{Begins}
use Rattle.reach.specs.Work.{Linked}
use Rattle.sparse.specs.Cells.{Shape}
use Rattle.moves.specs.Moves.{Derived, Row, Move}
use Rattle.ends.specs.Spans.{Steps, Spans, Flows, OnList}

-- what the tables are, for all steps
pub record Ground (c L M : List ℕ) (size n main : ℕ) : Type 0 where
  pub shape : Shape c size
  pub linked : Linked size L
  pub flows : Flows c L M size n
  pub short : n ≤ 200
  pub marks-long : 1536 * n + 1536 ≤ length M
  pub room : size * stretches n ≤ main

-- rows that have been begun: of rules before b at m, and of all after it
abbrev pub Begun : ℕ → ℕ → ℕ → ℕ → Type 0
Begun m b e x = (m < x) ⊎ ((x ≡ m) × (e < b))

-- what the rows say is so
pub record Sound (c L M : List ℕ) (size n m b : ℕ) (t : List ℕ) : Type 0 where
  pub is : (e x j : ℕ) → e < size → x ≤ n → Begins M e x → Begun m b e x → Derived n t e x j → Spans c L M n e x j

-- from the dot p at a place to its alternative's end at j, by ends of the table
pub data Rest (c M : List ℕ) (n : ℕ) (t : List ℕ) : ℕ → ℕ → ℕ → Type 0 where
  rest_end : {p j : ℕ} → next_kind c p ≡ 0 → Rest c M n t p j j
  rest-step : {p y z j : ℕ} → Move c M n t p y z → Rest c M n t (p + 1) z j → Rest c M n t p y j

-- the rule's row at m has all that its alternatives give
pub record Closed (c L M : List ℕ) (n : ℕ) (t : List ℕ) (e m : ℕ) : Type 0 where
  pub is : (q j : ℕ) → OnList L e q → Rest c M n t q m j → Derived n t e m j

-- no end is lost
abbrev pub Kept : ℕ → List ℕ → List ℕ → Type 0
Kept n t t' = (e x j : ℕ) → Derived n t e x j → Derived n t' e x j

-- the rule's row at m takes in a set; whether it grew
pub record Finished (n : ℕ) (t t' : List ℕ) (e m : ℕ) (S : List ℕ) (r : Bool) : Type 0 where
  pub long : length t' ≡ length t
  pub is : (e' x j : ℕ) → x ≤ n → Derived n t' e' x j → Derived n t e' x j ⊎ ((e' ≡ e) × (x ≡ m) × Has S j)
  pub kept : Kept n t t'
  pub all : (j : ℕ) → Has S j → m ≤ j → j ≤ n → Derived n t' e m j
  pub grows : Grows t t' r

-- the rule's row at m is empty, and no row of a place after it is changed
pub record Cleared (n : ℕ) (t t' : List ℕ) (e m : ℕ) : Type 0 where
  pub long : length t' ≡ length t
  pub none : (j : ℕ) → Derived n t' e m j → ⊥
  pub same : (e' x j : ℕ) → x ≤ n → Derived n t' e' x j → Derived n t e' x j
  pub kept : (e' x j : ℕ) → x ≤ n → m < x → Derived n t e' x j → Derived n t' e' x j

-- terminals are followed from the place m of the dot q
pub record Leading (c M : List ℕ) (size n m q : ℕ) : Type 0 where
  pub shape : Shape c size
  pub short : n ≤ 200
  pub marks-long : 1536 * n + 1536 ≤ length M
  pub on : m ≤ n
  pub inside : q < size

-- they lead to the place x of the dot p, from which all goes on that does from m; to a place past n, if nothing does
pub record Led (c M : List ℕ) (size n m q p x : ℕ) : Type 0 where
  pub inside : p < size
  pub steps : x ≤ n → (L : List ℕ) → Steps c L M n q m p x
  pub rest : (t : List ℕ) (j : ℕ) → Rest c M n t q m j → (x ≤ n) × Rest c M n t p x j

-- an alternative of the rule e that begins at q is tried at m
pub record Trying (c M : List ℕ) (size n m e q : ℕ) (t : List ℕ) : Type 0 where
  pub lists : List ℕ
  pub ground : Ground c lists M size n (length t)
  pub sound : Sound c lists M size n m size t
  pub listed : OnList lists e q
  pub on : m ≤ n
  pub inside : e < size
  pub begins : Begins M e m

pub record Tried (c M : List ℕ) (size n m e q : ℕ) (t t' : List ℕ) (r : Bool) : Type 0 where
  pub long : length t' ≡ length t
  pub kept : Kept n t t'
  pub grows : Grows t t' r
  pub closed : r ≡ false → (j : ℕ) → Rest c M n t q m j → Derived n t e m j
  pub sound : (L : List ℕ) → Ground c L M size n (length t) → OnList L e q → Sound c L M size n m size t → Sound c L M size n m size t'

-- a place is settled: a rule's rows at m, by the alternatives on its list
pub record Settling (c L M : List ℕ) (size n m : ℕ) (t : List ℕ) : Type 0 where
  pub ground : Ground c L M size n (length t)
  pub sound : Sound c L M size n m size t
  pub on : m ≤ n

pub record Settled (c L M : List ℕ) (size n m : ℕ) (t t' : List ℕ) : Type 0 where
  pub long : length t' ≡ length t
  pub sound : Sound c L M size n m size t'
  pub kept : Kept n t t'

-- the rule's row at m takes in what its alternatives give; whether it grew
pub record Redone (c L M : List ℕ) (size n m e : ℕ) (t t' : List ℕ) (r : Bool) : Type 0 where
  pub settled : Settled c L M size n m t t'
  pub grows : Grows t t' r
  pub closed : r ≡ false → Begins M e m → Closed c L M n t e m

-- all rules from a on do
pub record Rounded (c L M : List ℕ) (size n m a : ℕ) (t t' : List ℕ) (r : Bool) : Type 0 where
  pub settled : Settled c L M size n m t t'
  pub grows : Grows t t' r
  pub closed : r ≡ false → (e : ℕ) → a ≤ e → e < size → Begins M e m → Closed c L M n t e m

-- nothing is left to do
pub record Closing (c L M : List ℕ) (size n m : ℕ) (t t' : List ℕ) : Type 0 where
  pub settled : Settled c L M size n m t t'
  pub closed : (e : ℕ) → e < size → Begins M e m → Closed c L M n t' e m

-- the row of the rule e at m is begun
pub record Opening (M : List ℕ) (size n m e : ℕ) (main : ℕ) : Type 0 where
  pub row : Row n e main
  pub long : 1536 * n + 1536 ≤ length M
  pub on : m ≤ n

pub record Opened (M : List ℕ) (size n m a b : ℕ) (t t' : List ℕ) (r : Bool) : Type 0 where
  pub long : length t' ≡ length t
  pub kept : (e x j : ℕ) → x ≤ n → m < x → Derived n t e x j → Derived n t' e x j
  pub none : r ≡ false → (e : ℕ) → a ≤ e → e < b → Begins M e m → ⊥
  pub sound : (c L : List ℕ) → Sound c L M size n m a t → Sound c L M size n m b t'

-- the rows from the place m on say what is so
pub record SoundFrom (c L M : List ℕ) (size n m : ℕ) (t : List ℕ) : Type 0 where
  pub is : (e x j : ℕ) → e < size → x ≤ n → Begins M e x → m ≤ x → Derived n t e x j → Spans c L M n e x j

-- and all that is so
pub record CompleteFrom (c L M : List ℕ) (size n m : ℕ) (t : List ℕ) : Type 0 where
  pub is : (e x j : ℕ) → e < size → x ≤ n → Begins M e x → m ≤ x → Spans c L M n e x j → Derived n t e x j

pub record Filled (c L M : List ℕ) (size n : ℕ) (t t' : List ℕ) : Type 0 where
  pub long : length t' ≡ length t
  pub complete : CompleteFrom c L M size n 0 t'
  pub sound : SoundFrom c L M size n 0 t'
