-- What rules derive, by the code of the rules, lists of first dots and flags of terminals that fit.
use Rattle.std.specs.Prelude.{List, ◌≡◌, ℕ, ◌+◌, ◌*◌, ◌<◌, ◌≤◌, get_or}
use Rattle.chart.specs.Code.{next_kind, goes_at, rule_at}
use Rattle.reach.specs.Flags.{Fits, Reached, Begins, Ends, home_of}
use Rattle.reach.specs.Work.{Listed}

-- the dot q is on the rule's list
abbrev pub OnList : List ℕ → ℕ → ℕ → Type 0
OnList L e q = Listed L (get_or L (2 * e) 0) q

-- what stands between the dots q and p of an alternative derives the record from x to j
pub data Steps (c L M : List ℕ) (n : ℕ) : ℕ → ℕ → ℕ → ℕ → Type 0 where
  here : {q x : ℕ} → Steps c L M n q x q x
  by-terminal : {q x p j : ℕ} → Steps c L M n q x p j → next_kind c p ≡ 1 → Fits M p j → j + goes_at c p ≤ n → Steps c L M n q x (p + 1) (j + goes_at c p)
  by-symbol : {q x p j f l m : ℕ} → Steps c L M n q x p j → next_kind c p ≡ 2 → OnList L (rule_at c p) f → Steps c L M n f j l m → next_kind c l ≡ 0 → Steps c L M n q x (p + 1) m

-- the rule e derives the record from x to j
pub record Spans (c L M : List ℕ) (n e x j : ℕ) : Type 0 where
  pub first : ℕ
  pub last : ℕ
  pub listed : OnList L e first
  pub steps : Steps c L M n first x last j
  pub end : next_kind c last ≡ 0

-- the flags are closed under what leads from a dot to the next
pub record Flows (c L M : List ℕ) (size n : ℕ) : Type 0 where
  pub begin : (p i : ℕ) → p < size → i ≤ n → next_kind c p ≡ 2 → Reached M p i → Begins M (rule_at c p) i
  pub first : (q e i : ℕ) → e < size → i ≤ n → OnList L e q → Begins M e i → Reached M q i
  pub home : (q e : ℕ) → e < size → OnList L e q → home_of c q ≡ e
  pub shift : (p i : ℕ) → p < size → i ≤ n → next_kind c p ≡ 1 → Reached M p i → Fits M p i → Reached M (p + 1) (i + goes_at c p)
  pub end : (p i : ℕ) → p < size → i ≤ n → next_kind c p ≡ 0 → Reached M p i → Ends M (home_of c p) i
  pub over : (p i m : ℕ) → p < size → i ≤ m → m ≤ n → next_kind c p ≡ 2 → Reached M p i → Ends M (rule_at c p) m → Reached M (p + 1) m
