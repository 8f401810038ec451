-- Where dots stand on the record, by the code of the rules, lists of first dots and flags of terminals that fit.
use Rattle.std.specs.Prelude.{List, ◌≡◌, ℕ, ◌+◌, ◌<◌, ◌≤◌, length}
use Rattle.chart.specs.Code.{next_kind, goes_at, rule_at}
use Rattle.reach.specs.Flags.{Fits, Begins}
use Rattle.ends.specs.Spans.{OnList, Spans}
use Rattle.ends.specs.Table.{Ground, SoundFrom, CompleteFrom}

-- the dot p stands at i: all before it derives the record's beginning
pub data Stood (c L M : List ℕ) (n top : ℕ) : ℕ → ℕ → Type 0 where
  at_first : {q : ℕ} → OnList L top q → Stood c L M n top q 0
  entering : {p i q : ℕ} → Stood c L M n top p i → next_kind c p ≡ 2 → OnList L (rule_at c p) q → Stood c L M n top q i
  past-terminal : {p i : ℕ} → Stood c L M n top p i → next_kind c p ≡ 1 → Fits M p i → i + goes_at c p ≤ n → Stood c L M n top (p + 1) (i + goes_at c p)
  past-symbol : {p i m : ℕ} → Stood c L M n top p i → next_kind c p ≡ 2 → Spans c L M n (rule_at c p) i m → Stood c L M n top (p + 1) m

-- what the search goes by
pub record Base (c L M : List ℕ) (size n top : ℕ) (t : List ℕ) : Type 0 where
  pub ground : Ground c L M size n (length t)
  pub sound : SoundFrom c L M size n 0 t
  pub complete : CompleteFrom c L M size n 0 t
  pub root : Begins M top 0
  pub inside : top < size
