-- How far dots surely reach, and how far they may.
use Rattle.std.specs.Prelude.{Bool, true, List, ◌⊎◌, ◌≡◌, ℕ, ◌+◌, ◌*◌, ◌<◌, ◌≤◌, length}
use Rattle.text.specs.Lists.{Text}
use Rattle.chart.specs.Heights.{stretches}
use Rattle.reach.specs.Flags.{Begins}
use Rattle.fault.specs.Firsts.{Tokened, Firsts}
use Rattle.fault.specs.Far.{Begun}
use Rattle.bits.specs.Bits.{Lit}
use Rattle.ends.specs.Spans.{Flows}
use Rattle.standing.specs.Stood.{Stood}
use Rattle.standing.specs.Sets.{Member}

-- the terminal after the dot p, begun at i, reaches k
pub record Touch (Tb c : List ℕ) (R : Text) (p i k : ℕ) : Type 0 where
  pub count : ℕ
  pub begun : Begun Tb c R p i count
  pub is : k ≡ i + count

-- a place of the set of a dot reaches k
pub record Hit (Tb c : List ℕ) (R : Text) (size : ℕ) (S : List ℕ) (k : ℕ) : Type 0 where
  pub dot : ℕ
  pub place : ℕ
  pub inside : dot < size
  pub on : place ≤ length R
  pub member : Member S dot place
  pub touch : Touch Tb c R dot place k

-- r is the farthest of `best` and what the places of the sets reach that are in P
pub record Best (Tb c : List ℕ) (R : Text) (size : ℕ) (S : List ℕ) (P : ℕ → ℕ → Type 0) (best r : ℕ) : Type 0 where
  pub within : best ≤ length R → r ≤ length R
  pub is : (r ≡ best) ⊎ Hit Tb c R size S r
  pub low : best ≤ r
  pub most : (p i k : ℕ) → P p i → i ≤ length R → Member S p i → Touch Tb c R p i k → k ≤ r

-- what is reached at one place, if it is on
pub record One (Tb c : List ℕ) (R : Text) (p x : ℕ) (on : Bool) (best r : ℕ) : Type 0 where
  pub within : best ≤ length R → r ≤ length R
  pub is : (r ≡ best) ⊎ ((on ≡ true) × (x ≤ length R) × Touch Tb c R p x r)
  pub low : best ≤ r
  pub most : on ≡ true → x ≤ length R → (k : ℕ) → Touch Tb c R p x k → k ≤ r

pub record Confirming (Tb : List ℕ) (R : Text) (c M F : List ℕ) (size n top main : ℕ) : Type 0 where
  pub tokened : Tokened Tb c size
  pub flows : (L : List ℕ) → Firsts Tb c size L → Flows c L M size n
  pub long : n ≡ length R
  pub short : length R ≤ 200
  pub marks-long : 1536 * n + 1536 ≤ length M
  pub notes-long : length F ≡ 2048
  pub room : size * stretches n ≤ main
  pub root : Begins M top 0
  pub inside : top < size

-- r is reached by a dot that stands, and by none farther
pub record Confirmed (Tb : List ℕ) (R : Text) (c M : List ℕ) (size top r : ℕ) : Type 0 where
  pub firsts : List ℕ
  pub listed : Firsts Tb c size firsts
  pub is : (r ≡ 0) ⊎ ((p : ℕ) × (i : ℕ) × (p < size) × (i ≤ length R) × Stood c firsts M (length R) top p i × Touch Tb c R p i r)
  pub most : (p i k : ℕ) → p < size → i ≤ length R → Stood c firsts M (length R) top p i → Touch Tb c R p i k → k ≤ r

-- what is reached at the places of the number v of a set, by its bits before b
pub record Words (Tb c : List ℕ) (R : Text) (p v word b best r : ℕ) : Type 0 where
  pub within : best ≤ length R → r ≤ length R
  pub is : (r ≡ best) ⊎ ((b : ℕ) × (b < 32) × Lit word b × (32 * v + b ≤ length R) × Touch Tb c R p (32 * v + b) r)
  pub low : best ≤ r
  pub most : (d k : ℕ) → d < b → Lit word d → 32 * v + d ≤ length R → Touch Tb c R p (32 * v + d) k → k ≤ r
