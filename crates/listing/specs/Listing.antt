-- The lists of a column, while they are made: the dots that were listed by their rules are gone through once.
use Rattle.std.specs.Prelude.{true, false, List, ◌≡◌, ℕ, ◌+◌, ◌<◌, ◌≤◌, get_or, set}
use Rattle.chart.specs.Code.{next_kind, rule_at, owner_at}
use Rattle.chart.specs.Heights.{none}
use Rattle.reach.specs.Flags.{Wanted}
use Rattle.sparse.specs.Cells.{is_last, empty_rest}
use Rattle.sparse.specs.Steps.{Listed}
use Rattle.sparse.specs.Column.{Vanishes, UnitsTo, WakesOf, HandsOf}

-- x is added to the rows that wake; x with the row y to the dots that hand on
abbrev pub wake_added : List ℕ → ℕ → List ℕ
wake_added C x = set (set C (513 + get_or C 2049 0) x) 2049 (get_or C 2049 0 + 1)

abbrev pub hand_added : List ℕ → ℕ → ℕ → List ℕ
hand_added C x y = set (set (set C (1025 + get_or C 2050 0) x) (1537 + get_or C 2050 0) y) 2050 (get_or C 2050 0 + 1)

-- what a dot gives rise to that is not listed: no use of its rule may stand last, and nothing that vanishes stands before it
pub record Idle (c F : List ℕ) (size x : ℕ) : Type 0 where
  pub rule : (p : ℕ) → p < size → next_kind c p ≡ 2 → empty_rest c F (p + 1) < none → rule_at c p ≡ x → ⊥
  pub dot : (q : ℕ) → x ≡ q + 1 → (next_kind c (q + 1) ≡ 0 → ⊥) → owner_at c (q + 1) ≡ 0 → is_last c (q + 1) ≡ false → Vanishes c F q → ⊥

-- it has a row of its own, if it is no end
abbrev pub Rowed : List ℕ → ℕ → Type 0
Rowed c x = (next_kind c x ≡ 0 → ⊥) → (owner_at c x ≡ 0) × (is_last c x ≡ false)

-- it hands on by the row y
pub record Handing (c M : List ℕ) (size j x y : ℕ) : Type 0 where
  pub later : 0 < x
  pub row : y < size
  pub kind : next_kind c x ≡ 0 → ⊥
  pub own : is_last c x ≡ false → y ≡ x
  pub last : is_last c x ≡ true → (y ≡ rule_at c x) × Wanted M (rule_at c x) j

-- or by none
abbrev pub Keeping : List ℕ → List ℕ → ℕ → ℕ → Type 0
Keeping c M j x = (p : ℕ) → x ≡ p + 1 → (next_kind c (p + 1) ≡ 0 → ⊥) → owner_at c (p + 1) ≡ 0 → (is_last c (p + 1) ≡ true → Wanted M (rule_at c (p + 1)) j) → ⊥

-- of the first k listed dots all that wake are listed again, of the first l all that hand on
abbrev pub FirstIn : ℕ → List ℕ → ℕ → Type 0
FirstIn k C x = (l : ℕ) × (l < k) × (get_or C l 0 ≡ x)

pub record Sorted (c M F : List ℕ) (size j k l : ℕ) (C : List ℕ) : Type 0 where
  pub listed : Listed c M size j C
  pub units : UnitsTo c F size C
  pub wakes : WakesOf c M size j F (FirstIn k C) C
  pub hands : HandsOf c M size j (FirstIn l C) C
  pub few-wakes : get_or C 2049 0 ≤ k
  pub few-hands : get_or C 2050 0 ≤ l
