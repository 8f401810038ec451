-- The alternatives of a rule on a stretch and the ends of a symbol, in the filled part of the main table, in numbers alone.
use Rattle.std.specs.Prelude.{Bool, true, ◌≡◌, List, [], ◌∷◌, ℕ, ◌+◌, ◌*◌, ◌<◌, ◌≤◌, length, get_or}
use Rattle.chart.specs.Code.{next_kind, goes_at}
use Rattle.chart.specs.Heights.{none}
use Rattle.splits.specs.Splits.{Position, split_at, value_at}
use Rattle.candidates.specs.declared.Alternative.{Alternative}

-- the test b says exactly whether P
pub record Tells (b : Bool) (P : Type 0) : Type 0 where
  pub holds : b ≡ true → P
  pub told : P → b ≡ true

-- the alternative that begins at q ends at e
pub record Ends (c : List ℕ) (q e : ℕ) : Type 0 where
  pub order : q ≤ e
  pub inside : 4 * e + 3 < length c
  pub is : next_kind c e ≡ 0
  pub before : (p : ℕ) → q ≤ p → p < e → next_kind c p ≡ 0 → ⊥

-- the first positions of a rule's alternatives from q on
pub data Line (c : List ℕ) (size : ℕ) : ℕ → List ℕ → Type 0 where
  ln-last : {q e : ℕ} → Position c size q → Ends c q e → goes_at c e ≡ 0 → Line c size q (q ∷ [])
  ln-next : {q e m : ℕ} {qs : List ℕ} → Position c size q → Ends c q e → goes_at c e ≡ m + 1 → Line c size m qs → Line c size q (q ∷ qs)

pub record Lined (c : List ℕ) (size q : ℕ) : Type 0 where
  pub places : List ℕ
  pub line : Line c size q places

module _ (c M F : List ℕ) (size n : ℕ) (H : List ℕ) where
  -- an alternative of height at most k is there
  pub record SomeLow (q i j k : ℕ) : Type 0 where
    pub places : List ℕ
    pub line : Line c size q places
    pub number : ℕ
    pub exists : number < length places
    pub low : value_at c M F n H (get_or places number 0) i j ≤ k

  -- the earliest alternative of height at most k
  pub record FirstLow (q i j k : ℕ) (a : Alternative) : Type 0 where
    pub places : List ℕ
    pub line : Line c size q places
    pub exists : a.number < length places
    pub is : get_or places a.number 0 ≡ a.place
    pub low : value_at c M F n H a.place i j ≤ k
    pub first : (b : ℕ) → b < a.number → k < value_at c M F n H (get_or places b 0) i j

  -- an alternative other than a derives i to j
  pub record OtherBy (q i j a : ℕ) : Type 0 where
    pub places : List ℕ
    pub line : Line c size q places
    pub number : ℕ
    pub exists : number < length places
    pub other : number ≡ a → ⊥
    pub derives : value_at c M F n H (get_or places number 0) i j ≡ none → ⊥

  -- the symbol at p ends at m, and what stands after it goes on to j, with heights at most k
  abbrev pub LowEnd : ℕ → ℕ → ℕ → ℕ → ℕ → Type 0
  LowEnd p i j k m = split_at c M F n H p i j m ≤ k

  pub record SomeEnd (p i j k : ℕ) : Type 0 where
    pub place : ℕ
    pub after : i ≤ place
    pub before : place ≤ j
    pub low : LowEnd p i j k place
    pub height : k < none

  -- the smallest such place
  pub record FirstEnd (p i j k m : ℕ) : Type 0 where
    pub after : i ≤ m
    pub before : m ≤ j
    pub low : LowEnd p i j k m
    pub first : (l : ℕ) → i ≤ l → l < m → LowEnd p i j k l → ⊥

  -- the symbol at p ends at l, another place than m, and what stands after it goes on to j
  pub record AnotherEnd (p i j m l : ℕ) : Type 0 where
    pub other : l ≡ m → ⊥
    pub derives : split_at c M F n H p i j l ≡ none → ⊥

  pub record OtherEnd (p i j m : ℕ) : Type 0 where
    pub place : ℕ
    pub after : i ≤ place
    pub before : place ≤ j
    pub too : AnotherEnd p i j m place
