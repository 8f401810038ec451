-- Dots listed by rules: those that begin one, follow one, end one or use one.
use Rattle.std.specs.Prelude.{Option, None, Some, List, ◌⊎◌, ◌≡◌, ℕ, ◌+◌, ◌*◌, ◌-◌, ◌<◌, ◌≤◌, eqb, length, get_or}
use Rattle.text.specs.Lists.{pick}
use Rattle.chart.specs.Code.{next_kind, rule_at, owner_at}
use Rattle.reach.specs.Flags.{home_of}
use Rattle.reach.specs.declared.lists.DotList.{DotList}
use Rattle.reach.specs.declared.lists.DotList.TheVariants.{Firsts, Afters, LastDots, Uses}
use Rattle.reach.specs.Work.{Seen, Listed, Linked}

-- the rule of a dot and 1, or 0: of the symbol after it; of the symbol before it; of which an alternative ends there
unfoldable pub use_key : List ℕ → ℕ → ℕ
use_key c p = pick (eqb (next_kind c p) 2) (rule_at c p + 1) 0

unfoldable pub after_key : List ℕ → ℕ → ℕ
after_key c p = pick (eqb p 0) 0 (use_key c (p - 1))

unfoldable pub end_key : List ℕ → ℕ → ℕ
end_key c p = pick (eqb (next_kind c p) 0) (home_of c p + 1) 0

-- a rule and 1, or 0
abbrev pub rule_number : Option ℕ → ℕ
rule_number None = 0
rule_number (Some e) = e + 1

abbrev pub list_number : DotList → ℕ
list_number Firsts = 0
list_number Afters = 1
list_number LastDots = 2
list_number Uses = 3

-- by the number of a list: 0 of dots that begin an alternative, 1 of dots after symbols, 2 of ends, 3 of dots before symbols
unfoldable pub key_of : List ℕ → ℕ → ℕ → ℕ
key_of c w p = pick (eqb w 0) (owner_at c p) (pick (eqb w 1) (after_key c p) (pick (eqb w 2) (end_key c p) (use_key c p)))

-- what is used of a code
pub record Shape (c : List ℕ) (size : ℕ) : Type 0 where
  pub small : size ≤ 512
  pub room : 4 * size ≤ length c
  pub kinds : (p : ℕ) → p < size → next_kind c p ≤ 2
  pub owner : (p : ℕ) → p < size → owner_at c p ≤ size
  pub after : (p : ℕ) → p < size → (next_kind c p ≡ 0 → ⊥) → p + 1 < size
  pub inner : (p : ℕ) → p + 1 < size → (next_kind c p ≡ 0 → ⊥) → owner_at c (p + 1) ≡ 0
  pub rule : (p : ℕ) → p < size → next_kind c p ≡ 2 → rule_at c p < size

-- the work has the rule of each dot
abbrev pub Homes : List ℕ → ℕ → List ℕ → Type 0
Homes c size Q = (p : ℕ) → p < size → get_or Q (1025 + p) 0 ≡ home_of c p

-- a table has it from one of its cells on; others stay
pub record HomesFrom (c : List ℕ) (size from : ℕ) (Q Q' : List ℕ) : Type 0 where
  pub long : length Q' ≡ length Q
  pub homes : (p : ℕ) → p < size → get_or Q' (from + p) 0 ≡ home_of c p
  pub below : (x : ℕ) → x < from → get_or Q' x 0 ≡ get_or Q x 0
  pub above : (x : ℕ) → from + size ≤ x → get_or Q' x 0 ≡ get_or Q x 0

pub record Homing (c : List ℕ) (size : ℕ) (Q : List ℕ) : Type 0 where
  pub shape : Shape c size
  pub long : length Q ≡ 1537

pub record Homed (c : List ℕ) (size : ℕ) (Q Q' : List ℕ) : Type 0 where
  pub long : length Q' ≡ length Q
  pub homes : Homes c size Q'
  pub rest : (x : ℕ) → x < 1025 → get_or Q' x 0 ≡ get_or Q x 0

pub record Keying (c : List ℕ) (size : ℕ) (Q : List ℕ) : Type 0 where
  pub shape : Shape c size
  pub long : length Q ≡ 1537
  pub homes : Homes c size Q

-- the dots without a rule are open
pub record Opened (c : List ℕ) (size w : ℕ) (Q Q' : List ℕ) : Type 0 where
  pub long : length Q' ≡ length Q
  pub opened : (p : ℕ) → p < size → key_of c w p ≡ 0 → Seen Q' p
  pub rest : (x : ℕ) → (x < 513) ⊎ (1024 < x) → get_or Q' x 0 ≡ get_or Q x 0

-- each dot is in the list of its rule
pub record Members (c : List ℕ) (w size : ℕ) (L : List ℕ) : Type 0 where
  pub linked : Linked size L
  pub all : (p e : ℕ) → p < size → key_of c w p ≡ e + 1 → Listed L (get_or L (2 * e) 0) p

pub record Listing (c : List ℕ) (size : ℕ) (Q L : List ℕ) : Type 0 where
  pub keying : Keying c size Q
  pub room : 2 * size ≤ length L
  pub none : (x : ℕ) → get_or L x 0 ≡ 0

-- as a code in which a dot with a rule is a use of it
pub record Keyed (c : List ℕ) (size w : ℕ) (K : List ℕ) : Type 0 where
  pub long : 4 * size ≤ length K
  pub is : (p e : ℕ) → p < size → key_of c w p ≡ e + 1 → (next_kind K p ≡ 2) × (rule_at K p ≡ e)
  pub below : (p : ℕ) → p < size → next_kind K p ≡ 2 → rule_at K p < size

pub record PutKey (K K' : List ℕ) (p rule : ℕ) : Type 0 where
  pub long : length K' ≡ length K
  pub none : rule ≡ 0 → next_kind K' p ≡ next_kind K p
  pub some : (e : ℕ) → rule ≡ e + 1 → (next_kind K' p ≡ 2) × (rule_at K' p ≡ e)
  pub kept : (x : ℕ) → (x < 4 * p) ⊎ (4 * p + 3 < x) → get_or K' x 0 ≡ get_or K x 0
