-- Sets of places: 32 in a number, a bit for each.
use Rattle.std.specs.Prelude.{Bool, true, false, List, [], ◌∷◌, ◌⊎◌, ◌≡◌, ℕ, ◌+◌, ◌-◌, ◌/◌, ◌%◌, ◌^◌, ◌<◌, ◌≤◌, length, get_or}

-- the bit b of a number
unfoldable pub bit_of : ℕ → ℕ → ℕ
bit_of w b = (w / 2 ^ b) % 2

pub record Lit (w b : ℕ) : Type 0 where
  pub is : bit_of w b ≡ 1

-- the place x is in the set
pub record Has (s : List ℕ) (x : ℕ) : Type 0 where
  pub lit : Lit (get_or s (x / 32) 0) (x % 32)

-- the bits of two numbers
pub record Union (a b r : ℕ) : Type 0 where
  pub is : (k : ℕ) → Lit r k → Lit a k ⊎ Lit b k
  pub all : (k : ℕ) → Lit a k ⊎ Lit b k → Lit r k
  pub above : a ≤ r
  pub most : r ≤ 4294967295

-- the bits of d join those of a, if the mask is all ones; none, if it is 0
pub record Masking (a d on r : ℕ) : Type 0 where
  pub is : (k : ℕ) → Lit r k → Lit a k ⊎ (Lit d k × (on ≡ 0 → ⊥))
  pub kept : (k : ℕ) → Lit a k → Lit r k
  pub all : (k : ℕ) → on ≡ 4294967295 → Lit d k → Lit r k

-- the bits of a that old has not
pub record Beyond (a old r : ℕ) : Type 0 where
  pub is : (k : ℕ) → Lit r k → Lit a k × (Lit old k → ⊥)
  pub all : (k : ℕ) → Lit a k → (Lit old k → ⊥) → Lit r k

-- a mask for each bit of a word
pub record Spread (word : ℕ) (O O' : List ℕ) : Type 0 where
  pub is : (b : ℕ) → b < 32 → (get_or O' b 0 ≡ 0 → ⊥) → Lit word b
  pub all : length O ≡ 32 → (b : ℕ) → b < 32 → Lit word b → get_or O' b 0 ≡ 4294967295

-- the places of P come into a set of 8 numbers, and no other
pub record Adds (P : ℕ → Type 0) (s s' : List ℕ) : Type 0 where
  pub long : length s' ≡ length s
  pub is : (x : ℕ) → Has s' x → Has s x ⊎ P x
  pub kept : length s ≡ 8 → (x : ℕ) → Has s x → Has s' x
  pub all : length s ≡ 8 → (x : ℕ) → P x → Has s' x

-- what all numbers of a list lack: the measure of loops in which sets grow
abbrev pub lacking : List ℕ → ℕ
lacking [] = 0
lacking (x ∷ xs) = (4294967295 - x) + lacking xs

-- numbers of a list grow; whether one did
pub record Grows (t t' : List ℕ) (r : Bool) : Type 0 where
  pub still : r ≡ false → t' ≡ t
  pub less : r ≡ true → lacking t' < lacking t
