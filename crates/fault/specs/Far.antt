-- How far the dots that stand reach.
use Rattle.std.specs.Prelude.{Bool, true, false, List, ◌⊎◌, ◌≡◌, ℕ, ◌+◌, ◌<◌, ◌≤◌, length, get_or, drop}
use Rattle.text.specs.Lists.{Text}
use Rattle.tree.specs.Tree.{Terminal}
use Rattle.viable.specs.Stands.{begun_by}
use Rattle.rules.specs.Ready.{Token}
use Rattle.chart.specs.Code.{next_kind, goes_at}
use Rattle.reach.specs.Flags.{Fits}
use Rattle.sparse.specs.Cells.{Tables}
use Rattle.stands.specs.State.{Stood, Exact}
use Rattle.fault.specs.Firsts.{Tokened, Firsts}

-- whether the character k of those at a place of the table is there and is the record's
pub record Agrees (Tb : List ℕ) (at count : ℕ) (R : Text) (i k : ℕ) (r : Bool) : Type 0 where
  pub yes : r ≡ true → (k < count) × (i + k < length R) × (get_or Tb (at + k) 0 ≡ get_or R (i + k) 0)
  pub no : r ≡ false → (count ≤ k) ⊎ ((length R ≤ i + k) ⊎ ((k < count) × (i + k < length R) × (get_or Tb (at + k) 0 ≡ get_or R (i + k) 0 → ⊥)))

-- b characters of the terminal after the dot p are the record's from i on
pub record Begun (Tb c : List ℕ) (R : Text) (p i b : ℕ) : Type 0 where
  pub terminal : next_kind c p ≡ 1 → (x : Terminal) → Token Tb p x → b ≡ begun_by x (drop i R)
  pub other : (next_kind c p ≡ 1 → ⊥) → b ≡ 0

pub record Ranging (Tb c : List ℕ) (R : Text) (size i : ℕ) : Type 0 where
  pub tokened : Tokened Tb c size
  pub short : length R ≤ 200
  pub on : i ≤ length R

-- the dot p stands at i, and what stands after it reaches k
pub record Reached (Tb c : List ℕ) (R : Text) (W : List ℕ) (size p i k : ℕ) : Type 0 where
  pub inside : p < size
  pub stood : Stood W p i
  pub count : ℕ
  pub begun : Begun Tb c R p i count
  pub is : k ≡ i + count

-- r is the greatest of `best` and what the dots from a on before b reach at i
pub record Ranged (Tb c : List ℕ) (R : Text) (W : List ℕ) (size i a b best r : ℕ) : Type 0 where
  pub low : best ≤ r
  pub within : best ≤ length R → r ≤ length R
  pub most : (p k : ℕ) → a ≤ p → p < b → Reached Tb c R W size p i k → k ≤ r
  pub is : (r ≡ best) ⊎ ((p : ℕ) × Reached Tb c R W size p i r)

-- r is the greatest place that is reached from the places before b, or 0
pub record Reach (Tb c : List ℕ) (R : Text) (W : List ℕ) (size b r : ℕ) : Type 0 where
  pub within : r ≤ length R
  pub most : (p i k : ℕ) → i < b → Reached Tb c R W size p i k → k ≤ r
  pub is : (r ≡ 0) ⊎ ((p : ℕ) × (i : ℕ) × (i < b) × Reached Tb c R W size p i r)

pub record Placing (Tb : List ℕ) (R : Text) (c M F : List ℕ) (main size n top : ℕ) : Type 0 where
  pub tokened : Tokened Tb c size
  pub tables : Tables c M F size n main
  pub within : (p i : ℕ) → p < size → i ≤ n → next_kind c p ≡ 1 → Fits M p i → i + goes_at c p ≤ n
  pub long : n ≡ length R
  pub top-inside : top < size

-- r is the greatest place that viable dots reach
pub record Placed (Tb : List ℕ) (R : Text) (c M F H : List ℕ) (size top r : ℕ) : Type 0 where
  pub firsts : List ℕ
  pub listed : Firsts Tb c size firsts
  pub flags : List ℕ
  pub exact : Exact c firsts M F H flags size (length R) top
  pub reach : Reach Tb c R flags size (length R + 1) r
