-- The state of a read in rounds: an array of numbers that keeps grammar and record whole.
use Rattle.std.specs.Prelude.{List, ◌⊎◌, ◌≡◌, ℕ, ◌+◌, ◌<◌, ◌≤◌, length, get_or, set}

-- eight numbers, then a number for each byte: 4,096 of a grammar, and four for each character of a record
abbrev pub state_length : ℕ
state_length = 4904

-- how many rounds were done; whether the read is finished
abbrev pub rounds_of : List ℕ → ℕ
rounds_of S = get_or S 1 0

abbrev pub FinishedBy : List ℕ → Type 0
FinishedBy S = get_or S 2 0 ≡ 1

-- the numbers from a place on are these bytes
abbrev pub BytesAt : List ℕ → ℕ → List ℕ → Type 0
BytesAt S at bs = (i : ℕ) → i < length bs → get_or S (at + i) 0 ≡ get_or bs i 0

-- a tag, small counts, and both lengths
pub record Head (S : List ℕ) (g r : ℕ) : Type 0 where
  pub tag : get_or S 0 0 ≡ 1769500012
  pub few : rounds_of S ≤ 102912
  pub told : get_or S 2 0 ≤ 1
  pub grammar : get_or S 3 0 ≡ g
  pub input : get_or S 4 0 ≡ r
  pub grammar-short : g ≤ 4096
  pub input-short : r ≤ 800

-- "the state … keeps both whole"
pub record Keeps (gs rs S : List ℕ) : Type 0 where
  pub head : Head S (length gs) (length rs)
  pub grammar : BytesAt S 8 gs
  pub input : BytesAt S 4104 rs

-- the numbers from a place on take these bytes; the others are as they were
pub record Kept (S S' : List ℕ) (at : ℕ) (bs : List ℕ) : Type 0 where
  pub long : length S' ≡ length S
  pub bytes : BytesAt S' at bs
  pub other : (x : ℕ) → (x < at) ⊎ (at + length bs ≤ x) → get_or S' x 0 ≡ get_or S x 0

-- the first numbers of a read that has just begun
abbrev pub headed : List ℕ → ℕ → ℕ → List ℕ
headed S g r = set (set (set (set (set S 0 1769500012) 1 0) 2 0) 3 g) 4 r

-- the count of rounds and whether the read is finished take new values; the rest is as it was
pub record Counted (S S' : List ℕ) (rounds finished : ℕ) : Type 0 where
  pub long : length S' ≡ length S
  pub rounds-are : rounds_of S' ≡ rounds
  pub told : get_or S' 2 0 ≡ finished
  pub other : (x : ℕ) → (x ≡ 1 → ⊥) → (x ≡ 2 → ⊥) → get_or S' x 0 ≡ get_or S x 0

-- a state of zeros
abbrev pub Blank : List ℕ → Type 0
Blank S = (x : ℕ) → get_or S x 0 ≡ 0
