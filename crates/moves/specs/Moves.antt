-- The table of ends, for each rule and place a set of places, in the cells of the main table; steps over sets of places.
use Rattle.std.specs.Prelude.{List, ◌≡◌, ℕ, ◌+◌, ◌*◌, ◌-◌, ◌/◌, ◌%◌, ◌<◌, ◌≤◌, length, get_or}
use Rattle.bits.specs.Bits.{Lit, Has}
use Rattle.chart.specs.Code.{next_kind, goes_at, rule_at}
use Rattle.chart.specs.Heights.{stretches, cell_at}
use Rattle.reach.specs.Flags.{Fits}
use Rattle.sparse.specs.Cells.{Shape}

-- where the number w of a set stands: its cell's end
abbrev pub column_of : ℕ → ℕ → ℕ
column_of n w = n - n / 32 + w

-- the rule e may end at j, where it begins at x
pub record Derived (n : ℕ) (t : List ℕ) (e x j : ℕ) : Type 0 where
  pub order : x / 32 ≤ j / 32
  pub inside : j / 32 ≤ n / 32
  pub lit : Lit (get_or t (cell_at n e x (column_of n (j / 32))) 0) (j % 32)

-- the rows of the rule are in the table
pub record Row (n e main : ℕ) : Type 0 where
  pub short : n ≤ 200
  pub small : e < 512
  pub room : (e + 1) * stretches n ≤ main

-- each mask is 0 or all ones
abbrev pub Masks : List ℕ → Type 0
Masks O = (b : ℕ) → b < 32 → (get_or O b 0 ≡ 0 → ⊥) → get_or O b 0 ≡ 4294967295

-- bits of numbers from `at` on, of those whose mask is all ones
pub record Gathered (t : List ℕ) (at : ℕ) (O : List ℕ) (count r : ℕ) : Type 0 where
  pub is : (k : ℕ) → Lit r k → (b : ℕ) × (b < count) × (get_or O b 0 ≡ 0 → ⊥) × Lit (get_or t (at + b) 0) k
  pub all : (k b : ℕ) → b < count → get_or O b 0 ≡ 4294967295 → Lit (get_or t (at + b) 0) k → Lit r k

-- ends from places of the number v, of those whose mask is not 0
pub record Masked (n : ℕ) (t : List ℕ) (e v : ℕ) (O : List ℕ) (x : ℕ) : Type 0 where
  pub b : ℕ
  pub low : b < 32
  pub on : 32 * v + b ≤ n
  pub lit : get_or O b 0 ≡ 0 → ⊥
  pub derived : Derived n t e (32 * v + b) x

-- ends from places of the number v that are bits of a word
pub record Worded (n : ℕ) (t : List ℕ) (e v word x : ℕ) : Type 0 where
  pub b : ℕ
  pub low : b < 32
  pub on : 32 * v + b ≤ n
  pub lit : Lit word b
  pub derived : Derived n t e (32 * v + b) x

-- ends from places of a set
pub record Passed (n : ℕ) (t : List ℕ) (e : ℕ) (S : List ℕ) (x : ℕ) : Type 0 where
  pub from : ℕ
  pub on : from ≤ n
  pub has : Has S from
  pub derived : Derived n t e from x

-- the place z is reached over the terminal after p from the place y
pub record Landed (M : List ℕ) (p width n y z : ℕ) : Type 0 where
  pub fits : Fits M p y
  pub within : y + width ≤ n
  pub is : z ≡ y + width

pub record Shifting (M : List ℕ) (p width n : ℕ) : Type 0 where
  pub long : 1536 * n + 1536 ≤ length M
  pub small : p < 512
  pub short : n ≤ 200

pub record LandedBy (M : List ℕ) (p width n v word z : ℕ) : Type 0 where
  pub b : ℕ
  pub low : b < 32
  pub lit : Lit word b
  pub landed : Landed M p width n (32 * v + b) z

pub record Shifted (M : List ℕ) (p width n : ℕ) (S : List ℕ) (z : ℕ) : Type 0 where
  pub from : ℕ
  pub has : Has S from
  pub landed : Landed M p width n from z

-- from the place y of the dot p to the place z of the dot after it
pub data Move (c M : List ℕ) (n : ℕ) (t : List ℕ) (p y z : ℕ) : Type 0 where
  move-terminal : next_kind c p ≡ 1 → Landed M p (goes_at c p) n y z → Move c M n t p y z
  move-symbol : next_kind c p ≡ 2 → y ≤ n → Derived n t (rule_at c p) y z → Move c M n t p y z

pub record Moved (c M : List ℕ) (n : ℕ) (t : List ℕ) (p : ℕ) (S : List ℕ) (z : ℕ) : Type 0 where
  pub from : ℕ
  pub has : Has S from
  pub move : Move c M n t p from z

-- a step gives exactly the places that are moved to
pub record Stepped (c M : List ℕ) (n : ℕ) (t : List ℕ) (p : ℕ) (S s : List ℕ) : Type 0 where
  pub long : length s ≡ 8
  pub is : (z : ℕ) → Has s z → Moved c M n t p S z
  pub all : (z : ℕ) → Moved c M n t p S z → Has s z

-- what a step is given
pub record Stepping (c M : List ℕ) (size n p main : ℕ) : Type 0 where
  pub shape : Shape c size
  pub short : n ≤ 200
  pub marks-long : 1536 * n + 1536 ≤ length M
  pub room : size * stretches n ≤ main
  pub inside : p < size
