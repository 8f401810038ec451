-- Where dots stand, by the code of the rules and a finished table alone.
use Rattle.std.specs.Prelude.{List, ◌≡◌, ℕ, ◌+◌, ◌*◌, ◌<◌, ◌≤◌, get_or}
use Rattle.chart.specs.Code.{next_kind, goes_at, rule_at}
use Rattle.chart.specs.Heights.{none}
use Rattle.reach.specs.Flags.{Fits}
use Rattle.reach.specs.Work.{Listed}
use Rattle.sparse.specs.Cells.{rule_of, Tables}
use Rattle.reach.specs.Work.{Linked}

-- the dot q is on the rule's list
abbrev pub Begins : List ℕ → ℕ → ℕ → Type 0
Begins L e q = Listed L (get_or L (2 * e) 0) q

-- What the dot p at the place i leads to: the dot after a terminal that fits; the dots that are listed of the rule of a symbol; the dot after a
-- symbol whose rule derives what is between.
pub data Next (c L M F H : List ℕ) (n p i : ℕ) : ℕ → ℕ → Type 0 where
  by-terminal : next_kind c p ≡ 1 → Fits M p i → Next c L M F H n p i (p + 1) (i + goes_at c p)
  by-entering : {q : ℕ} → next_kind c p ≡ 2 → Begins L (rule_at c p) q → Next c L M F H n p i q i
  by-passing : {m : ℕ} → next_kind c p ≡ 2 → i ≤ m → m ≤ n → rule_of c M F n H (rule_at c p) i m < none → Next c L M F H n p i (p + 1) m

-- what the root's rule leads to, from the record's first place on
pub data Viable (c L M F H : List ℕ) (n top : ℕ) : ℕ → ℕ → Type 0 where
  at_first : {q : ℕ} → Begins L top q → Viable c L M F H n top q 0
  onward : {p i q k : ℕ} → Viable c L M F H n top p i → Next c L M F H n p i q k → Viable c L M F H n top q k

-- what the search goes by: a terminal that fits does so within the record
pub record Ground (c L M F : List ℕ) (main size n : ℕ) : Type 0 where
  pub tables : Tables c M F size n main
  pub linked : Linked size L
  pub within : (p i : ℕ) → p < size → i ≤ n → next_kind c p ≡ 1 → Fits M p i → i + goes_at c p ≤ n
